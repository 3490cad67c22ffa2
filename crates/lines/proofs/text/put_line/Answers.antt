use Rattle.lines.proofs.TextLaws.{line_put}
use Rattle.lines.proofs.text.put_line.Goals as goal

pub returns-clause-puts_numbers : goal.returns-clause-puts_numbers
returns-clause-puts_numbers c =
    let w = line_put c.requires c.put_number-second.ensures.most c.put_number-third.ensures.most c.put_number-fourth.ensures.most
    c.put_number.ensures.most c.put_number-second.ensures.puts_number c.put_number-third.ensures.puts_number
    c.put_number-fourth.ensures.puts_number c.put_number.ensures.puts_number in
    w.0
