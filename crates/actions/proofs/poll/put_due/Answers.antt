-- Kind by kind: the word that is put is the slot's new time.
use Rattle.actions.proofs.SendLaws.{put_hello, put_ca, put_csus, put_update}
use Rattle.actions.proofs.poll.put_due.Goals as goal

pub returns-in-Hello : goal.returns-in-Hello
returns-in-Hello c =
    let a = c.args in
    put_hello a.d a.time a.k.at a.slots.now c.put_hello_sent.new.t c.in-Hello.is c.put_hello_sent.ensures

pub returns-in-FirstCa : goal.returns-in-FirstCa
returns-in-FirstCa c =
    let a = c.args in
    put_ca a.d a.time a.k.at a.slots.now c.put_ca_sent.new.t c.in-FirstCa.is c.put_ca_sent.ensures

pub returns-in-Csus : goal.returns-in-Csus
returns-in-Csus c =
    let a = c.args in
    put_csus a.d a.time a.k.at a.slots.now c.put_csus_sent.new.t c.in-Csus.is c.put_csus_sent.ensures

pub returns-in-Update : goal.returns-in-Update
returns-in-Update c =
    let a = c.args in
    put_update a.d a.time a.k.at a.slots.now c.put_update.new.slots c.in-Update.picks c.in-Update.is c.put_update.ensures
