use borrow.Author.Rules.{rules}
use Rattle.request_laws.proofs.Fields.{stray_found}
use Rattle.request.proofs.fields.some_stray.Goals as goal

pub returns : goal.returns
returns g c = search (rules, stray_found)
