-- Finish and new: the lines besides the heap's, from the heap that they leave.
use mathlib.Core.Path.{◌≡◌, refl, sym, ap, ◌∙◌}
use mathlib.Core.Logic.{inl, inr}
use mathlib.Core.Bool.{true, false}
use mathlib.Core.List.{List, [], ◌∷◌}
use Prim.Native.Nat.{ℕ, zero, suc, ◌+◌, ◌*◌, ◌≤◌, ◌<◌, zero-le}
use native.Mathlib.Omega.{arith}
use lib.ListN.{length}
use Rattle.model.specs.Base.{nth, put, zeros, bit}
use Rattle.model.specs.Image.{Image, granules, word, marked, links, link, state, dirty, reg, count, entry, hand, next_link, hand_card, next_granule, owed}
use Rattle.model.specs.Finish.{scanned_off}
use Rattle.model.specs.Steps.{run}
use Rattle.model.proofs.Laws.{false≢, nth_put_same, nth_put_other, length_put}
use Rattle.model.proofs.Bits.{no_bit}
use Rattle.model.proofs.Counts.{how_many_none}
use Rattle.theory.specs.Cover.{owes_by, to_nil, to_marked, is_coming, is_owed}
use Rattle.theory.specs.Lines.{PacketsOk, TracersOk, NilOr, GeneralOk, HeapOk, Start, Marked, Lines, Undamaged, none}
use Rattle.theory.specs.New.{reheaped}
use Rattle.theory.proofs.steps.Beginning.{zeros_nth, length_zeros, running_ok}
use Rattle.theory.proofs.lines.Covering.{same_coming}
use Rattle.theory.proofs.lines.Sections.{tracers_mono}

-- ---- finish: heap, starts and first run as given, the collector's state cleared

abbrev pub cleared : Image → List ℕ → List ℕ → ℕ → Image
cleared m hs ss f = record { width = m.width; k = m.k; heap = hs; starts = ss; marks = zeros m.marks; cards = zeros m.cards; counts = zeros m.counts; regs = m.regs; packets = zeros m.packets; tracers = zeros m.tracers; players = scanned_off m.players; general = put (put m.general 0 0) 1 f }

pub off_length : (l : List ℕ) → length (scanned_off l) ≡ length l
unfolding scanned_off
off_length [] = refl
off_length (o ∷ []) = refl
off_length (o ∷ s ∷ l) = ap (λ n. suc (suc n)) (off_length l)

pub off_owed : (l : List ℕ) (p : ℕ) → nth (scanned_off l) (2 * p) ≡ nth l (2 * p)
unfolding scanned_off nth
off_owed [] p = refl
off_owed (o ∷ []) p = refl
off_owed (o ∷ s ∷ l) zero = refl
off_owed (o ∷ s ∷ l) (suc p) = let e : 2 * suc p ≡ suc (suc (2 * p)) = omega arith in rw e (off_owed l p)

pub off_scanned : (l : List ℕ) (p : ℕ) → nth (scanned_off l) (2 * p + 1) ≡ 0
unfolding scanned_off nth
off_scanned [] p = refl
off_scanned (o ∷ []) p = let e : 2 * p + 1 ≡ suc (2 * p) = omega arith in rw e refl
off_scanned (o ∷ s ∷ l) zero = refl
off_scanned (o ∷ s ∷ l) (suc p) = let e : 2 * suc p + 1 ≡ suc (suc (2 * p + 1)) = omega arith in rw e (off_scanned l p)

zero_packets : {Mk : ℕ → Type 0} {ps : List ℕ} → length ps ≡ 1024 → ((i : ℕ) → nth ps i ≡ 0) → PacketsOk Mk ps
zero_packets l z = record {
  sized = l;
  few = λ p h. rw (z (32 * p)) (omega arith);
  gap = λ p h. z _;
  past = λ p e h h' c. z _;
  full = λ p e g i. absurd (omega (arith, i.below, z (32 * p)));
  once = λ p e q f g i j. absurd (omega (arith, i.below, z (32 * p)));
}

zero_tracers : {Hd Cd : ℕ → ℕ → Type 0} {ts : List ℕ} → length ts ≡ 64 → ((i : ℕ) → nth ts i ≡ 0) → TracersOk Hd Cd ts
zero_tracers l z = record {
  sized = l;
  places = record { held = λ t i h h'. rw (z (8 * t + i)) (omega arith); once = λ t i u j p a b c d e f. absurd (omega (arith, e, z (8 * t + i))) };
  hands = record { pair = λ t h. none (z _) (z _) };
  hand_cards = record { pair = λ t h. none (z _) (z _) };
  spare = record { pair = λ t h. none (z _) (z _) };
}

first_run_ok : {gs : List ℕ} → GeneralOk gs → (f : ℕ) → GeneralOk (put gs 1 f)
first_run_ok {gs} o f = record {
  sized = simp length_put o.sized;
  runs = rw (nth_put_other gs 1 0 f (omega arith)) o.runs;
  rest = λ i. nth_put_other gs 1 (suc (suc i)) f (omega arith) ∙ o.rest i;
}

-- what the heap must give of a finish: it is filled, and what registers hold is kept
pub cleared_keeps : (m : Image) → Lines m → (hs ss : List ℕ) (f : ℕ) → HeapOk m.width m.k hs ss f → ((i : ℕ) → NilOr (λ a. (a < 64 * m.k) × (bit m.width ss a ≡ true)) (nth m.regs i)) → Undamaged (cleared m hs ss f)
unfolding marked
cleared_keeps m o hs ss f h rs =
    let unmarked : (g : ℕ) → bit m.width (zeros m.marks) g ≡ false = λ g. no_bit m.width (zeros m.marks) (zeros_nth m.marks) g in
    record {
      sound = record {
        lines = record {
          heap_ok = rw (nth_put_same (put m.general 0 0) 1 f (simp length_put (omega (arith, o.general-ok.sized)))) h;
          regs_ok = record { sized = o.regs_ok.sized; values = rs };
          cards_ok = record { sized = length_zeros m.cards ∙ o.cards_ok.sized; states = λ c. rw (zeros_nth m.cards c) (omega arith) };
          marks_ok = record { exact = length_zeros m.marks ∙ o.marks_ok.exact; sized = λ g l. rw (length_zeros m.marks) (o.marks_ok.sized g l); on_starts = λ g e. false≢ (sym (unmarked g) ∙ e); counts_sized = length_zeros m.counts ∙ o.marks_ok.counts_sized; counted = λ c l. zeros_nth m.counts c ∙ sym (how_many_none _ 64 (λ j h. unmarked (64 * c + j))) };
          packets_ok = zero_packets (length_zeros m.packets ∙ o.packets_ok.sized) (zeros_nth m.packets);
          tracers_ok = zero_tracers (length_zeros m.tracers ∙ o.tracers_ok.sized) (zeros_nth m.tracers);
          players_ok = record { sized = off_length m.players ∙ o.players_ok.sized; owed_ok = λ p. rw (off_owed m.players p) (o.players_ok.owed_ok p); scanned_ok = λ p. rw (off_scanned m.players p) (omega arith) };
          general-ok = first_run_ok (running_ok o.general-ok 0 (omega arith)) f;
        };
        idle = λ z. record { no_marks = zeros_nth m.marks; no_packets = zeros_nth m.packets; no_tracers = zeros_nth m.tracers; no_scanned = off_scanned m.players };
      };
      cover = λ g i hg k l. false≢ (sym (unmarked g) ∙ k);
    }

-- ---- new: heap, starts and first run written

pub nil_mono : {P Q : ℕ → Type 0} → ((a : ℕ) → P a → Q a) → (a : ℕ) → NilOr P a → NilOr Q a
nil_mono f a (inl z) = inl z
nil_mono f a (inr h) = inr (f a h)

-- what the heap must give of a new: it is filled, starts stay, the link words of old objects stay
pub reheaped_keeps : (m : Image) → Undamaged m → (hs ss gs : List ℕ) → HeapOk m.width m.k hs ss (nth gs 1) → GeneralOk gs → nth gs 0 ≡ nth m.general 0
    → ((g : ℕ) → bit m.width m.starts g ≡ true → bit m.width ss g ≡ true)
    → ((g i : ℕ) → Start m g → i ≤ nth m.heap (4 * g + 1) → nth hs (4 * g + (1 + i)) ≡ nth m.heap (4 * g + (1 + i)))
    → Undamaged (reheaped m hs ss gs)
unfolding granules marked word links link dirty state reg owed count entry hand next_link hand_card next_granule
reheaped_keeps m u hs ss gs h gk run up same =
    let o : Lines m = u.sound.lines in
    let st : (g : ℕ) → Start m g → (g < 64 * m.k) × (bit m.width ss g ≡ true) = λ g d. (d.0, up g d.1) in
    let count_same : (g : ℕ) → Marked m g → nth hs (4 * g + 1) ≡ nth m.heap (4 * g + 1) = λ g k. same g 0 (o.marks_ok.on_starts g k) zero-le in
    record {
      sound = record {
        lines = record {
          heap_ok = h;
          general-ok = gk;
          cards_ok = o.cards_ok;
          packets_ok = o.packets_ok;
          players_ok = o.players_ok;
          regs_ok = record { sized = o.regs_ok.sized; values = λ i. nil_mono st (nth m.regs i) (o.regs_ok.values i) };
          marks_ok = record { exact = o.marks_ok.exact; sized = o.marks_ok.sized; on_starts = λ g k. st g (o.marks_ok.on_starts g k); counts_sized = o.marks_ok.counts_sized; counted = o.marks_ok.counted };
          tracers_ok = tracers_mono (λ g i d. (d.0, rw (count_same g d.0) d.1)) (λ c n d. d) o.tracers_ok;
        };
        idle = λ z. u.sound.idle (sym run ∙ z);
      };
      cover = λ g i hg k l.
          let l' : i < nth m.heap (4 * g + 1) = rw (count_same g k) at l in
          let j : 2 + i ≡ 1 + suc i = omega arith in
          let e : nth hs (4 * g + (2 + i)) ≡ nth m.heap (4 * g + (2 + i)) = rw j (same g (suc i) (o.marks_ok.on_starts g k) l') in
          elim (u.cover g i hg k l') [
            | to_nil q ↦ to_nil (e ∙ q)
            | to_marked q ↦ to_marked (rw e q)
            | is_coming d ↦ is_coming (same_coming m (reheaped m hs ss gs) refl refl refl g i d)
            | is_owed (owes_by q r hq hr w d) ↦ is_owed (owes_by q r hq hr w (d ∙ sym e))
          ];
    }
