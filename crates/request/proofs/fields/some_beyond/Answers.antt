use borrow.Author.Rules.{rules}
use Rattle.request_laws.proofs.Fields.{beyond_found}
use Rattle.request.proofs.fields.some_beyond.Goals as goal

pub returns : goal.returns
returns g c = search (rules, beyond_found)
