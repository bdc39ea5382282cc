-- An image and a plain store agree; what a step leaves of that.
use Rattle.std.specs.Prelude.{◌≡◌, Bool, false, not, ℕ, suc, ◌*◌, ◌<◌, eqb}
use Rattle.model.specs.Image.{Image, word, size, links, link, levels, level, reg, owed}
use Rattle.model.specs.Records.{Step, Kind}
use Rattle.model.specs.Steps.{Done, Event, off_desk, bad_size, no_object, past_end}
use Rattle.model.specs.Plain.{Object, old, made, PlainStore, PlainDone, named, reading}
use Rattle.model.specs.Claim.{Chain}

-- ---- the relation

-- the reading of granules before the event at place i: nil is nil, no two have one name, and a made object's place is past
pub record Names (name : ℕ → Object) (i : ℕ) : Type 0 where
  pub name_nil : name 0 ≡ old 0
  pub name_one : (g h : ℕ) → name g ≡ name h → g ≡ h
  pub name_past : (g j : ℕ) → name g ≡ made j → j < i

-- the registers and owed barriers agree, and so do size, links and level words of the objects in P
pub record Agrees (P : ℕ → Type 0) (name : ℕ → Object) (m : Image) (q : PlainStore) : Type 0 where
  pub same_reg : (p r : ℕ) → p < 16 → r < 16 → q.register p r ≡ name (reg m p r)
  pub same_owing : (p : ℕ) → p < 16 → q.owing p ≡ not (eqb (owed m p) 0)
  pub same_size : (g : ℕ) → P g → q.size_of (name g) ≡ size m g
  pub same_count : (g : ℕ) → P g → q.link_count (name g) ≡ links m g
  pub same_link : (g i : ℕ) → P g → i < links m g → q.link_of (name g) i ≡ name (link m g i)
  pub same_level : (g i : ℕ) → P g → i < levels m g → q.level_of (name g) i ≡ level m g i

-- they agree on what a chain from a register reaches; the plain store has all else too
abbrev pub SameStore : (ℕ → Object) → Image → PlainStore → Type 0
SameStore name m q = Agrees (Chain m) name m q

-- the event at place i and the plain store's step answer alike and leave an image and a plain store that agree
pub record Related (name : ℕ → Object) (i : ℕ) (e : Event) (d : PlainDone) : Type 0 where
  pub names_after : Names (named name i e) (suc i)
  pub same_after : SameStore (named name i e) e.done.image d.plain
  pub same_reply : reading (named name i e) e ≡ d.reply

abbrev pub event : Image → Step → Done → Event
event m s d = record { got = m; request = s; done = d }

-- ---- numbers

-- the lines of 10, 4, 5, 6, 7 and 11 on an image, and those of 4, 5, 6, 7 and 11 on a plain store: they agree where 4 does not apply, that of 7
-- where 6 does not apply either
pub record SameLines (phase off w x y z off' w' x' y' z' : Bool) : Type 0 where
  pub in_phase : phase ≡ false
  pub desk_line : off ≡ off'
  pub owing_line : off ≡ false → w ≡ w'
  pub object_line : off ≡ false → x ≡ x'
  pub end_line : off ≡ false → x ≡ false → y ≡ y'
  pub nothing_line : off ≡ false → z ≡ z'

-- an accepted step: none of these lines applies
pub record Admitted (m : Image) (s : Step) (n : Kind) : Type 0 where
  pub on_desk : off_desk s m.k n ≡ false
  pub has_object : no_object m s n ≡ false
  pub not_past : past_end m s n ≡ false
  pub good_size : bad_size s n ≡ false

-- ---- what steps leave

-- the words of what a chain reaches are as they were
abbrev pub WordsStay : Image → Image → Type 0
WordsStay m m' = (g i : ℕ) → Chain m g → i < 4 * size m g → word m' g i ≡ word m g i

-- registers and owed cards too
pub record KeptWords (m m' : Image) : Type 0 where
  pub kept_reg : (p r : ℕ) → reg m' p r ≡ reg m p r
  pub kept_owed : (p : ℕ) → owed m' p ≡ owed m p
  pub kept_word : WordsStay m m'
