-- Request (vi) of document 02 on the reports of our own finishes, as one statement about a first image and a list of batches.
use Rattle.std.specs.Prelude.{◌≡◌, Bool, false, not, ℕ, suc, ◌+◌, ◌%◌, ◌<◌, ltb, length}
use mathlib.Core.List.{List, [], ◌∷◌, ◌++◌, Memᴰ}
use Rattle.model.specs.Base.{zeros, any, every}
use Rattle.model.specs.Image.{Image, is_start, size, words}
use Rattle.model.specs.Records.{begin, finish}
use Rattle.model.specs.Mutate.{Placing}
use Rattle.model.specs.Steps.{Event}
use Rattle.model.specs.Claim.{Lent, history, Accepted}
use Rattle.model.specs.Report.{covered, bad_stretch, scratch_words, report_of}

-- granule g was freed by a finish that got m and left n: it is in an object of m that is gone in n
unfoldable pub freed_by : Image → Image → ℕ → Bool
freed_by m n g = any (suc g) (λ s. every (is_start m s ∷ not (is_start n s) ∷ ltb g (s + size m s) ∷ []))

-- "a report without a bad stretch, of exactly what our own finish freed"
pub record TrueReport (m n : Image) (bs : List ℕ) : Type 0 where
  pub whole_records : length bs % 4 ≡ 0
  pub none_bad : bad_stretch m bs ≡ false
  pub exactly_freed : (g : ℕ) → covered bs g ≡ freed_by m n g

-- bytes that are such a report
pub record SomeReport (m n : Image) : Type 0 where
  pub bytes : List ℕ
  pub are_bytes : (b : ℕ) → Memᴰ b bytes → b < 256
  pub is_report : TrueReport m n bytes

-- such a report "is always acceptable, if in one list of steps an accepted begin got the first image and the next accepted finish the second",
-- with a scratch that fits; and there is such a report
pub record OwnReport (rule : Placing) (ws : List ℕ) (bs : List Lent) : Type 0 where
  pub acceptable : (b f : Event) (before mid behind : List Event) → history rule 16 ws bs ≡ before ++ (b ∷ (mid ++ (f ∷ behind)))
      → Accepted begin b → ((e : Event) → Memᴰ e mid → Accepted finish e → ⊥) → Accepted finish f
      → (report scratch : List ℕ) → TrueReport f.got f.done.image report → length scratch ≡ scratch_words b.got.k
      → report_of (words b.got) (words f.got) report scratch ≡ record { result = 0; scratch = zeros scratch }
  pub there_is_one : (f : Event) → Memᴰ f (history rule 16 ws bs) → Accepted finish f → SomeReport f.got f.done.image

-- opens what of these computes
unfoldable pub own_report_open : ℕ
unfolding freed_by
own_report_open = 0
