use borrow.Author.Rules.{rules}
use native.Mathlib.Omega.{arith}
use mathlib.Core.Path.{◌∙◌}
use Rattle.image.proofs.Words.{word_read}
use Rattle.search_laws.proofs.follow.Goes.{goes_on}
use Rattle.search.proofs.follow.pass.Goals as goal

pub settle-h-requires-clause-g_bound : goal.settle-h-requires-clause-g_bound
settle-h-requires-clause-g_bound g c =
    let P = c.requires.last_pending in
    rw (c.value-g.ensures.value ∙ word_read g.met.W.Word.laws.by_value c.args.hints.now _ _ (search rules) c.index-hints-n.is) (P.here, P.is_pending)

pub drain-requires-clause-search : goal.drain-requires-clause-search
drain-requires-clause-search g c = c.settle-h.ensures.goes.search

pub returns : goal.returns
returns g c = goes_on 1 (omega arith) c.settle-h.ensures.goes c.drain.ensures
