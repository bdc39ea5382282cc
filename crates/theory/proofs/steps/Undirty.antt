-- Undirty keeps "undamaged": with a count of 0 no object on the card is marked, so Cover asks nothing of the card, and its state may be wiped.
use mathlib.Core.Path.{◌≡◌, refl, sym, subst, ◌∙◌}
use mathlib.Core.Bool.{true}
use Prim.Native.Nat.{ℕ, ◌+◌, ◌*◌, ◌/◌, ◌%◌, ◌<◌}
use native.Mathlib.Decide.{ℕ_discrete}
use native.Mathlib.Omega.{arith}
use Rattle.model.specs.Base.{bit}
use Rattle.model.specs.Image.{Image, marked, card_count, clean_state, undirty_card, fields_open}
use Rattle.model.proofs.Laws.{nth_put_other}
use Rattle.model.proofs.Counts.{none_how_many}
use Rattle.theory.specs.Cover.{Coming, Covered, on_dirty, on_entry, on_hand, on_card, owes_by, is_coming, is_owed}
use Rattle.theory.specs.Lines.{Lines, Undamaged}
use Rattle.theory.proofs.lines.Lines.{put_state}
use Rattle.theory.proofs.lines.Sections.{clean_changes}
use Rattle.theory.proofs.steps.Reaching.{covered_on}

module _ (m : Image) (o : Lines m) (c : ℕ) (h : c < m.k) where
  -- a count of 0: no object on the card is marked
  pub none_marked : card_count m c ≡ 0 → (g : ℕ) → g / 64 ≡ c → marked m g ≡ true → ⊥
  unfolding card_count marked
  none_marked z g e k =
      let place : g ≡ 64 * c + g % 64 = omega arith in
      none_how_many (λ j. bit m.width m.marks (64 * c + j)) 64 (sym (o.marks_ok.counted c h) ∙ z) (g % 64) (omega arith) (subst (λ x. bit m.width m.marks x ≡ true) place k)

  undirty_lines : Lines (undirty_card m c)
  unfolding fields_open
  undirty_lines = put_state o clean_state clean_changes c h

  -- a marked object comes as before: it lies on another card, or does not come by its card's state
  marked_comes : card_count m c ≡ 0 → (g i : ℕ) → marked m g ≡ true → Coming m g i → Covered (undirty_card m c) g i
  unfolding fields_open
  marked_comes z g i k (on_dirty q) =
      elim (ℕ_discrete (g / 64) c) [ yes e ↦ absurd (none_marked z g e k) | no n ↦ is_coming (on_dirty (rw (nth_put_other m.cards c (g / 64) _ n) q)) ]
  marked_comes z g i k (on_entry p e hp he q) = is_coming (on_entry p e hp he q)
  marked_comes z g i k (on_hand t ht q r) = is_coming (on_hand t ht q r)
  marked_comes z g i k (on_card t ht q r) = is_coming (on_card t ht q r)

pub undirty_keeps : (m : Image) → Undamaged m → (c : ℕ) → c < m.k → card_count m c ≡ 0 → Undamaged (undirty_card m c)
unfolding fields_open
undirty_keeps m u c h z = record {
  sound = record { lines = undirty_lines m u.sound.lines c h; idle = u.sound.idle };
  cover = λ g i hg k l. covered_on m (undirty_card m c) g i refl (λ a q. q) (marked_comes m u.sound.lines c h z g i k)
      (λ p r hp hr ow e. is_owed (owes_by p r hp hr ow e)) (u.cover g i hg k l);
}
