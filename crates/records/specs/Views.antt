-- The record that a view of one in a packet is of, and those of a packet.
-- Assumes nothing.
use Rattle.std.specs.Prelude.{List}
use Rattle.protocol.specs.Messages.{CsaRecord}
use Rattle.memory.specs.Memory.{entry_named}
use Rattle.wire.specs.Views.{records_of}
use Rattle.records.specs.declared.packet.Records.{Records}
use Rattle.records.specs.declared.view.RecordView.{RecordView}

abbrev pub record_shown : RecordView → CsaRecord
record_shown v = record {
  hops = v.hops;
  null = v.null;
  number = v.number;
  key = (entry_named v.name.octets.now).key;
  originator = (entry_named v.name.octets.now).originator;
  payload = v.payload.octets.now;
}

-- the records that the cursor has before it
abbrev pub records_left : Records → List CsaRecord
records_left r = records_of r.packet.now r.cursor
