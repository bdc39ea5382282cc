-- An object is settled (`settle`): its links are followed one after the other, then it is pending no more.
use mathlib.Core.Path.{◌≡◌, sym, ◌∙◌}
use mathlib.Core.List.{List}
use Prim.Native.Nat.{ℕ, ◌+◌, ◌*◌, ◌≤◌, ◌<◌, zero-le}
use native.Mathlib.Omega.{arith}
use native.Mathlib.Decide.{ℕ_discrete}
use Rattle.model.specs.Image.{Image, word, links, link, image_of}
use Rattle.model.specs.Claim.{Chain, chain_link}
use Rattle.model.proofs.Counts.{sum_change}
use Rattle.theory.specs.Lines.{Sound}
use Rattle.image_laws.specs.Bits.{clear_bit}
use Rattle.search_laws.specs.Search.{seen, pending, Visited, Search, to_do_at, to_do, Goes}
use Rattle.search_laws.proofs.Planes.{Settled, settled_bits}
use Rattle.search_laws.proofs.follow.Chains.{ChainsIn, sound_chains}
use Rattle.search_laws.proofs.follow.Goes.{goes_none, goes_on, stays_seen}
use Rattle.search_laws.proofs.hints.Visiting.{VisitDone, visit_done}

-- ---- all links of a are seen, and its pending bit is cleared

module _ {w k : ℕ} {m : Image} {s : List ℕ} {a : ℕ} {s' : List ℕ} (t : Search w k m s) (h : a < 64 * k) (u : pending w k s a ≡ 1) (b : Settled w k s a s') where
  settled_less : to_do w k s' + 1 ≡ to_do w k s
  unfolding to_do to_do_at
  settled_less = omega (arith, sum_change (to_do_at w k s) (to_do_at w k s') (64 * k) a h (λ j hj n. rw (b.seen_same j hj, b.pending_other j n)), b.seen_same a h, b.is_done, u)

  waiting_less : (g : ℕ) → g < 64 * k → pending w k s' g ≡ 1 → (seen w s' g ≡ 1) × Chain m g
  waiting_less g hg d = elim (ℕ_discrete g a) [
    | yes q ↦ absurd (let z : pending w k s' a ≡ 1 = rw q at d in omega (arith, b.is_done))
    | no n ↦ let r = t.waiting g hg (sym (b.pending_other g n) ∙ d) in (b.seen_same g hg ∙ r.0, r.1)
  ]

  module _ (o : ChainsIn k m) (all : (i : ℕ) → i < links m a → seen w s (link m a i) ≡ 1) where
    closed_more : (g i : ℕ) → g < 64 * k → Chain m g → seen w s' g ≡ 1 → pending w k s' g ≡ 0 → i < links m g → seen w s' (link m g i) ≡ 1
    closed_more g i hg c e d l = b.seen_same (link m g i) (o.target g i c l) ∙ elim (ℕ_discrete g a) [
      | yes q ↦ rw q (all i (rw q at l))
      | no n ↦ t.closed g i hg c (sym (b.seen_same g hg) ∙ e) (sym (b.pending_other g n) ∙ d) l
    ]

    settled_search : Search w k m s'
    settled_search =
        record { planes = b.planes; nil = b.seen_same 0 (omega arith) ∙ t.nil; only = λ g hg e. t.only g hg (sym (b.seen_same g hg) ∙ e); waiting = waiting_less; closed = closed_more }

-- ---- the loop over the c links of g, with h hints after i turns

pub record LinksDone (w k : ℕ) (m : Image) (s₀ : List ℕ) (n g c : ℕ) (s : List ℕ) (h i : ℕ) : Type 0 where
  pub chains : ChainsIn k m
  pub here : g < 64 * k
  pub low : i ≤ c
  pub all_links : c ≡ links m g
  pub inside : 4 * g + 2 + c ≤ 256 * k
  pub goes : Goes w k m s₀ s 0
  pub less : to_do w k s + h ≤ to_do w k s₀ + n
  pub still : pending w k s g ≡ 1
  pub done : (j : ℕ) → j < i → seen w s (link m g j) ≡ 1

pub links_none : (w k : ℕ) (ws s : List ℕ) (n g c i : ℕ) → i ≡ 0 → Sound (image_of w k ws) → Search w k (image_of w k ws) s → g < 64 * k → pending w k s g ≡ 1 → c ≡ links (image_of w k ws) g
    → LinksDone w k (image_of w k ws) s n g c s n i
links_none w k ws s n g c i z d t h u e =
    let o = sound_chains w k ws d in
    record {
      chains = o;
      here = h;
      low = omega arith;
      all_links = e;
      inside = rw e (o.inside g (t.waiting g h u).1);
      goes = goes_none t;
      less = omega arith;
      still = u;
      done = λ j l. absurd (omega arith);
    }

module _ {w k : ℕ} {m : Image} {s₀ : List ℕ} {n g c : ℕ} {s : List ℕ} {h i : ℕ} (t : LinksDone w k m s₀ n g c s h i) where
  links_chain : Chain m g
  links_chain = (t.goes.search.waiting g t.here t.still).1

  module _ {a : ℕ} (e : a ≡ word m g (2 + i)) (l : i < c) where
    pub links_target : a < 64 * k
    unfolding link
    links_target = rw e (t.chains.target g i links_chain (omega (arith, t.all_links)))

    pub links_more : {s' : List ℕ} {h' : ℕ} → Visited w k s h a s' h' → LinksDone w k m s₀ n g c s' h' (i + 1)
    unfolding link
    links_more {s'} {h'} p =
        let q : VisitDone w k m s h a s' h' = visit_done t.chains t.goes.search links_target (λ nz. chain_link g i links_chain (omega (arith, t.all_links)) (sym e) nz) p in
        record {
          chains = t.chains;
          here = t.here;
          low = omega arith;
          all_links = t.all_links;
          inside = t.inside;
          goes = goes_on 0 zero-le t.goes q.goes;
          less = omega (arith, t.less, q.less);
          still = q.stays g t.still;
          done = λ j lj. elim (ℕ_discrete j i) [
            | yes z ↦ rw (z, ← e) q.is_seen
            | no z ↦ stays_seen q.goes (link m g j) (t.chains.target g j links_chain (omega (arith, t.all_links, t.low))) (t.done j (omega arith))
          ];
        }

  module _ (l : c ≤ i) {s' : List ℕ} (e : s' ≡ clear_bit w s (64 * k + g)) where
    links_settled : Settled w k s g s'
    links_settled = rw e (settled_bits g t.goes.search.planes t.here)

    links_less : to_do w k s' + 1 ≡ to_do w k s
    links_less = settled_less t.goes.search t.here t.still links_settled

    pub links_end : Goes w k m s₀ s' 1
    links_end =
        record {
          search = settled_search t.goes.search t.here t.still links_settled t.chains (λ j lj. t.done j (omega (arith, t.all_links)));
          grow = λ j lj. omega (arith, t.goes.grow j lj, links_settled.seen_same j lj);
          down = omega (arith, t.goes.down, links_less);
        }

    pub links_fall : to_do w k s' + h < to_do w k s₀ + n
    links_fall = omega (arith, t.less, links_less)
