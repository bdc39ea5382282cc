-- A link is followed (`visit`): what holds of a search stays, and an object that is seen for the first time leaves two less to do.
use mathlib.Core.Path.{◌≡◌, refl, sym, subst, ◌∙◌}
use mathlib.Core.Logic.{◌⊎◌, inr, ⊎_elim}
use mathlib.Core.Bool.{Bool, true, false}
use mathlib.Core.List.{List}
use Prim.Native.Nat.{ℕ, ◌+◌, ◌*◌, ◌≤◌, ◌<◌}
use native.Mathlib.Omega.{arith}
use native.Mathlib.Decide.{ℕ_discrete}
use Rattle.model.specs.Base.{bit, set_bit}
use Rattle.model.specs.Image.{Image, links, link}
use Rattle.model.specs.Claim.{Chain}
use Rattle.model.proofs.Counts.{sum_change}
use Rattle.image_laws.proofs.Digits.{digit_two, digit_le, digit_on, digit_off}
use Rattle.search_laws.specs.Search.{seen, pending, Visited, again, newly, Search, to_do_at, to_do, Goes}
use Rattle.search_laws.proofs.Planes.{Pended, pended_bits}
use Rattle.search_laws.proofs.follow.Chains.{ChainsIn}
use Rattle.search_laws.proofs.follow.Goes.{goes_none}

-- ---- the ways out of `visit`

module _ (w k : ℕ) (s : List ℕ) (n a : ℕ) (b : Bool) (e : b ≡ bit w s a) where
  pub visit_again : b ≡ true → Visited w k s n a s n
  visit_again q = again (digit_on (sym e ∙ q)) refl refl

  pub visit_newly : b ≡ false → (s1 s2 : List ℕ) (j r : ℕ) → s1 ≡ set_bit w s a → s2 ≡ set_bit w s1 j → j ≡ 64 * k + a → r ≤ n + 1 → Visited w k s n a s2 r
  visit_newly q s1 s2 j r e1 e2 ej l = newly (digit_off (sym e ∙ q)) (e2 ∙ rw (e1, ej)) l

-- ---- a is seen for the first time

module _ {w k : ℕ} {m : Image} {s : List ℕ} {a : ℕ} {s' : List ℕ} (t : Search w k m s) (u : seen w s a ≡ 0) (b : Pended w k s a s') (h : a < 64 * k) where
  pended_grows : (g : ℕ) → g < 64 * k → seen w s g ≤ seen w s' g
  pended_grows g hg = elim (ℕ_discrete g a) [ yes e ↦ rw e (omega (arith, b.is_seen, u)) | no n ↦ omega (arith, b.seen_other g hg n) ]

  pended_stays : (g : ℕ) → pending w k s g ≡ 1 → pending w k s' g ≡ 1
  pended_stays g e = elim (ℕ_discrete g a) [ yes q ↦ rw q b.is_pending | no n ↦ b.pending_other g n ∙ e ]

  not_pending : pending w k s a ≡ 0
  not_pending = ⊎_elim (λ z. z) (λ z. absurd (omega (arith, (t.waiting a h z).0))) (digit_two (bit w s (64 * k + a)))

  pended_less : to_do w k s' + 2 ≡ to_do w k s
  unfolding to_do to_do_at
  pended_less =
      omega (arith, sum_change (to_do_at w k s) (to_do_at w k s') (64 * k) a h (λ j hj n. rw (b.seen_other j hj n, b.pending_other j n)), u, not_pending, b.is_seen, b.is_pending)

  module _ (o : ChainsIn k m) (c : Chain m a) where
    only_chains : (g : ℕ) → g < 64 * k → seen w s' g ≡ 1 → (g ≡ 0) ⊎ Chain m g
    only_chains g hg e = elim (ℕ_discrete g a) [ yes q ↦ inr (subst (Chain m) (sym q) c) | no n ↦ t.only g hg (sym (b.seen_other g hg n) ∙ e) ]

    waiting_on : (g : ℕ) → g < 64 * k → pending w k s' g ≡ 1 → (seen w s' g ≡ 1) × Chain m g
    waiting_on g hg e = elim (ℕ_discrete g a) [
      | yes q ↦ rw q (b.is_seen, c)
      | no n ↦ let r = t.waiting g hg (sym (b.pending_other g n) ∙ e) in (b.seen_other g hg n ∙ r.0, r.1)
    ]

    closed_on : (g i : ℕ) → g < 64 * k → Chain m g → seen w s' g ≡ 1 → pending w k s' g ≡ 0 → i < links m g → seen w s' (link m g i) ≡ 1
    closed_on g i hg x e d l = elim (ℕ_discrete g a) [
      | yes q ↦ absurd (let z : pending w k s' a ≡ 0 = rw q at d in omega (arith, b.is_pending))
      | no n ↦ omega
          (arith, pended_grows (link m g i) (o.target g i x l), t.closed g i hg x (sym (b.seen_other g hg n) ∙ e) (sym (b.pending_other g n) ∙ d) l, digit_le (bit w s' (link m g i)))
    ]

    pended_search : Search w k m s'
    pended_search = record { planes = b.planes; nil = omega (arith, pended_grows 0 (omega arith), t.nil, digit_le (bit w s' 0)); only = only_chains; waiting = waiting_on; closed = closed_on }

-- ---- a is seen, whether for the first time or not

pub record VisitDone (w k : ℕ) (m : Image) (s : List ℕ) (n a : ℕ) (s' : List ℕ) (r : ℕ) : Type 0 where
  pub goes : Goes w k m s s' 0
  pub less : to_do w k s' + r ≤ to_do w k s + n
  pub is_seen : seen w s' a ≡ 1
  pub stays : (g : ℕ) → pending w k s g ≡ 1 → pending w k s' g ≡ 1

pub visit_done : {w k : ℕ} {m : Image} {s : List ℕ} {n a : ℕ} {s' : List ℕ} {r : ℕ} → ChainsIn k m → Search w k m s → a < 64 * k → ((a ≡ 0 → ⊥) → Chain m a) → Visited w k s n a s' r → VisitDone w k m s n a s' r
visit_done o t h c (again e es er) =
    rw (es, er)
    (record { goes = goes_none t; less = omega arith; is_seen = e; stays = λ g d. d })
visit_done {w} {k} {m} {s} {n} {a} {s'} {r} o t h c (newly e es er) =
    let b : Pended w k s a s' = rw es (pended_bits a t.planes h) in
    let d : Chain m a = c (λ z. let y : seen w s 0 ≡ 0 = rw z at e in omega (arith, t.nil)) in
    record {
      goes = record { search = pended_search t e b h o d; grow = pended_grows t e b h; down = omega (arith, pended_less t e b h) };
      less = omega (arith, pended_less t e b h);
      is_seen = b.is_seen;
      stays = pended_stays t e b h;
    }
