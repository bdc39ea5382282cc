use borrow.Author.Rules.{rules}
use Rattle.service_map_laws.proofs.Lines.{line_of}
use Rattle.map_lines.proofs.lines.write_line.Goals as goal

pub returns : goal.returns
returns g c = record { value = search rules; out_after = search (rules, line_of) }
