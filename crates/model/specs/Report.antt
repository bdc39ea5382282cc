-- "Judge an older desk's sweep report", document 02, (vi) and (viii): what chains reach, by computation; the stretches of a report; the verdict.
use Rattle.std.specs.Prelude.{Bool, true, false, not, List, [], ◌∷◌, ℕ, zero, suc, ◌+◌, ◌*◌, ◌/◌, ◌%◌, leb, ltb, eqb, length, get_or, take, drop}
use Rattle.model.specs.Base.{zeros, all, any, every, some, first}
use Rattle.model.specs.Closure.{reached}
use Rattle.model.specs.Image.{Image, granules, is_start, size, fits, cards_of, parts}
use Rattle.model.specs.Undamaged.{undamaged}
use Rattle.model.specs.Records.{little}
use Rattle.model.specs.Finish.{non_nil, links_of}

-- ---- what chains reach

-- "A chain from a register reaches what it holds and what any object so reached links to", as a set of granules
unfoldable pub chain_set : Image → List Bool
chain_set m = reached (granules m) (links_of m) (non_nil m.regs)

-- ---- the stretches of a report

-- "records of 4 bytes, no header": how many
unfoldable pub stretch_count : List ℕ → ℕ
stretch_count bs = length bs / 4

-- "start and length in granules, 16 bits each, low byte first", of stretch i
unfoldable pub stretch_start : List ℕ → ℕ → ℕ
stretch_start bs i = little (take 2 (drop (4 * i) bs))

unfoldable pub stretch_length : List ℕ → ℕ → ℕ
stretch_length bs i = little (take 2 (drop (4 * i + 2) bs))

-- the record of a stretch of n granules from granule a on
unfoldable pub stretch_record : ℕ → ℕ → List ℕ
stretch_record a n = a % 256 ∷ a / 256 ∷ n % 256 ∷ n / 256 ∷ []

-- the granule behind stretch i
unfoldable pub stretch_end : List ℕ → ℕ → ℕ
stretch_end bs i = stretch_start bs i + stretch_length bs i

-- granule g lies in stretch i
unfoldable pub in_stretch : List ℕ → ℕ → ℕ → Bool
in_stretch bs g i = every (leb (stretch_start bs i) g ∷ ltb g (stretch_end bs i) ∷ [])

-- "covered by one"
unfoldable pub covered : List ℕ → ℕ → Bool
covered bs g = any (stretch_count bs) (in_stretch bs g)

-- ---- 12, bad stretch

-- "Stretches must rise without overlap": the lowest granule at which stretch i may start
unfoldable pub lowest_start : List ℕ → ℕ → ℕ
lowest_start bs zero = 1
lowest_start bs (suc i) = stretch_end bs i

-- from granule g on, objects follow one another up to granule e; n is at least their number
unfoldable pub whole_objects : Image → ℕ → ℕ → ℕ → Bool
whole_objects m zero g e = eqb g e
whole_objects m (suc n) g e =
    elim (leb e g) [ true ↦ eqb g e | false ↦ elim (is_start m g) [ true ↦ whole_objects m n (g + size m g) e | false ↦ false ] ]

-- "each must be made up of one or more whole objects of the second image"
unfoldable pub good_stretch : Image → List ℕ → ℕ → Bool
good_stretch m bs i =
    every
    (leb 1 (stretch_length bs i)
    ∷ leb (lowest_start bs i) (stretch_start bs i)
    ∷ leb (stretch_end bs i) (granules m)
    ∷ whole_objects m (stretch_length bs i) (stretch_start bs i) (stretch_end bs i)
    ∷ [])

unfoldable pub bad_stretch : Image → List ℕ → Bool
bad_stretch m bs = not (all (stretch_count bs) (good_stretch m bs))

-- ---- 13, held object freed: "No object of the second image within reach of its registers may lie in one."

unfoldable pub held_freed : Image → List ℕ → Bool
held_freed m bs = let s = chain_set m in any (granules m) (λ g. every (get_or s g false ∷ covered bs g ∷ []))

-- ---- 14, lost object missed: "Every start of the first image out of reach there must be covered by one."

unfoldable pub lost_missed : Image → List ℕ → Bool
lost_missed m bs = let s = chain_set m in any (granules m) (λ g. every (is_start m g ∷ not (get_or s g false) ∷ not (covered bs g) ∷ []))

-- ---- the verdict

-- "12 bad stretch; 13 held object freed; 14 lost object missed; the lowest is given": m is the image at the begin, n that just before the finish
unfoldable pub verdict : Image → Image → List ℕ → ℕ
verdict m n bs = first 12 (bad_stretch n bs ∷ held_freed n bs ∷ lost_missed m bs ∷ [])

-- ---- the call

-- what a call returns and leaves: its result, and the words of the scratch at exit
pub record Reported : Type 0 where
  pub result : ℕ
  pub scratch : List ℕ

-- "from G/8 words of scratch [..]. A scratch of G words is a misfit from then on", (viii): G = 64 × k granules
unfoldable pub scratch_words : ℕ → ℕ
scratch_words k = 64 * k / 8

-- "1 for any misfit, images of unequal length and report bytes not a multiple of 4 included"
unfoldable pub report_misfit : ℕ → List ℕ → List ℕ → List ℕ → List ℕ → Bool
report_misfit w fs ss bs scratch =
    some
    (not (fits w (length fs))
    ∷ not (eqb (length ss) (length fs))
    ∷ not (eqb (length bs % 4) 0)
    ∷ not (eqb (length scratch) (scratch_words (cards_of w (length fs))))
    ∷ [])

-- "2": an image is damaged
unfoldable pub either_damaged : ℕ → List ℕ → List ℕ → Bool
either_damaged w fs ss = some (not (undamaged (parts w fs)) ∷ not (undamaged (parts w ss)) ∷ [])

-- the lower of the two; 0 if neither applies
unfoldable pub report_number : ℕ → List ℕ → List ℕ → List ℕ → List ℕ → ℕ
report_number w fs ss bs scratch = first 1 (report_misfit w fs ss bs scratch ∷ either_damaged w fs ss ∷ [])

-- "scratch, whose content afterwards is zero; on refusals 1 and 2 it is unaltered"
unfoldable pub report_with : ℕ → List ℕ → List ℕ → List ℕ → List ℕ → ℕ → Reported
report_with w fs ss bs scratch (suc r) = record { result = suc r; scratch = scratch }
report_with w fs ss bs scratch zero = record { result = verdict (parts w fs) (parts w ss) bs; scratch = zeros scratch }

-- a call, with words of w bits: the first image, the second, the report's bytes, the scratch at entry
unfoldable pub report_at : ℕ → List ℕ → List ℕ → List ℕ → List ℕ → Reported
report_at w fs ss bs scratch = report_with w fs ss bs scratch (report_number w fs ss bs scratch)

-- the store of 16-bit words
unfoldable pub report_of : List ℕ → List ℕ → List ℕ → List ℕ → Reported
report_of = report_at 16

-- opens all of these
unfoldable pub report_open : ℕ
unfolding chain_set stretch_count stretch_start stretch_length stretch_record stretch_end in_stretch covered lowest_start whole_objects good_stretch bad_stretch held_freed lost_missed verdict scratch_words report_misfit either_damaged report_number report_with report_at report_of
report_open = 0
