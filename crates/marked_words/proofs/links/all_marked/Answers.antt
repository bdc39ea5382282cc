use borrow.Author.Rules.{rules}
use mathlib.Core.Path.{◌∙◌}
use Rattle.soundness_laws.proofs.Checks.{checked_none, checked_more, checked_stop, checked_end}
use Rattle.judge_laws.proofs.Links.{same_yes, same_no}
use Rattle.marked_words.proofs.links.all_marked.Goals as goal

pub loop-i-init : goal.loop-i-init
loop-i-init g c = checked_none

pub returns-then-s-value : goal.returns-then-s-value
returns-then-s-value g c =
    checked_stop _ _ _ (search rules) (same_no _ _ _ _ (c.value-s.ensures.value ∙ c.start_word.ensures) (c.value.ensures.value ∙ c.mark_word.ensures) c.if-s-value.true)

pub loop-i-preserved : goal.loop-i-preserved
loop-i-preserved g c =
    checked_more _ _ _ _ _ c.loop-i.invariant (search rules)
    (same_yes _ _ _ _ (c.value-s.ensures.value ∙ c.start_word.ensures) (c.value.ensures.value ∙ c.mark_word.ensures) c.if-s-value.false)

pub returns : goal.returns
returns g c = search (rules, checked_end)
