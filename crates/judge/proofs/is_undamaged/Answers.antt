use borrow.Author.Rules.{rules}
use Rattle.judge_laws.proofs.Verdict.{un_sound, ready_of, un_cover, un_still}
use Rattle.judge.proofs.is_undamaged.Goals as goal

pub returns-then-not-is_sound : goal.returns-then-not-is_sound
returns-then-not-is_sound g c = search (rules, un_sound)

pub returns-then-value-eq0 : goal.returns-then-value-eq0
returns-then-value-eq0 g c = search (rules, un_still)

pub is_covered-requires-clause-coverable : goal.is_covered-requires-clause-coverable
is_covered-requires-clause-coverable g c = search (rules, ready_of)

pub returns : goal.returns
returns g c = search (rules, un_cover)
