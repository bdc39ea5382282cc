use native.Mathlib.Omega.{arith}
use mathlib.Core.Path.{◌∙◌}
use Rattle.image.proofs.Words.{words_length}
use Rattle.search_laws.proofs.follow.Reach.{first_in, search_first, chain_bits}
use Rattle.search.proofs.follow.reach_with.Goals as goal

pub add-requires : goal.add-requires
add-requires g c =
    let long = words_length g.met.W.Word.laws.by_value in
    omega (arith, first_in c.requires.sized (long c.args.s.now ∙ c.requires.s_len) c.clear.ensures, long c.clear.new.s)

pub hold_all-n-requires-clause-search : goal.hold_all-n-requires-clause-search
hold_all-n-requires-clause-search g c = search_first c.requires.sized (words_length g.met.W.Word.laws.by_value c.args.s.now ∙ c.requires.s_len) c.clear.ensures _ c.add.ensures

pub drain-requires-clause-search : goal.drain-requires-clause-search
drain-requires-clause-search g c = c.hold_all-n.ensures.held.search

pub follow_all-requires-clause-search : goal.follow_all-requires-clause-search
follow_all-requires-clause-search g c = c.drain.ensures.search

pub returns : goal.returns
returns g c = chain_bits _ _ _ c.requires.sound c.hold_all-n.ensures.held c.drain.ensures c.follow_all.ensures.goes c.follow_all.ensures.none_pending
