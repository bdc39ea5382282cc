-- The lines of "undamaged" as records over section lists, grouped by the section that they read.
use Rattle.std.specs.Prelude.{◌≡◌, ◌⊎◌, true, false, List, ℕ, suc, ◌+◌, ◌*◌, ◌-◌, ◌/◌, ◌≤◌, ◌<◌, length, drop}
use Rattle.model.specs.Base.{nth, bit, how_many}
use Rattle.model.specs.Image.{Image, most_cards}
use Rattle.model.specs.Undamaged.{fill}
use Rattle.theory.specs.Cover.{Cover}

-- ---- packets

-- the count and the entries of packet p
abbrev pub count_in : List ℕ → ℕ → ℕ
count_in ps p = nth ps (32 * p)

abbrev pub entry_in : List ℕ → ℕ → ℕ → ℕ
entry_in ps p e = nth ps (32 * p + 2 + e)

-- entry e of packet p is g
pub record Enters (ps : List ℕ) (p e g : ℕ) : Type 0 where
  pub is_packet : p < 32
  pub below : e < count_in ps p
  pub is_entry : entry_in ps p e ≡ g

-- "A packet is a count and 30 entries, with one zero word between; entries past the count are 0." "Packet entries are marked, and no object is entered twice."
pub record PacketsOk (Mk : ℕ → Type 0) (ps : List ℕ) : Type 0 where
  pub sized : length ps ≡ 1024
  pub few : (p : ℕ) → p < 32 → count_in ps p ≤ 30
  pub gap : (p : ℕ) → p < 32 → nth ps (32 * p + 1) ≡ 0
  pub past : (p e : ℕ) → p < 32 → e < 30 → count_in ps p ≤ e → entry_in ps p e ≡ 0
  pub full : (p e g : ℕ) → Enters ps p e g → Mk g
  pub once : (p e q f g : ℕ) → Enters ps p e g → Enters ps q f g → (p ≡ q) × (e ≡ f)

-- ---- tracers

-- two words: both zero, or the first is not and the two are right
pub data Pair (P : ℕ → ℕ → Type 0) (x y : ℕ) : Type 0 where
  none : x ≡ 0 → y ≡ 0 → Pair P x y
  one : (x ≡ 0 → ⊥) → P x y → Pair P x y

-- words a and a + 1 of each tracer
pub record Pairs (P : ℕ → ℕ → Type 0) (a : ℕ) (ts : List ℕ) : Type 0 where
  pub pair : (t : ℕ) → t < 8 → Pair P (nth ts (8 * t + a)) (nth ts (8 * t + suc a))

-- "Each packet is held in at most one place."
pub record HeldOk (ts : List ℕ) : Type 0 where
  pub held : (t i : ℕ) → t < 8 → i < 2 → nth ts (8 * t + i) ≤ 32
  pub once : (t i u j p : ℕ) → t < 8 → u < 8 → i < 2 → j < 2 → nth ts (8 * t + i) ≡ suc p → nth ts (8 * u + j) ≡ suc p → (t ≡ u) × (i ≡ j)

pub data Never : ℕ → ℕ → Type 0 where

-- Hd: what an object in hand and its next link are; Cd: what a card in hand and its next granule are
pub record TracersOk (Hd Cd : ℕ → ℕ → Type 0) (ts : List ℕ) : Type 0 where
  pub sized : length ts ≡ 64
  pub places : HeldOk ts
  pub hands : Pairs Hd 2 ts
  pub hand_cards : Pairs Cd 4 ts
  pub spare : Pairs Never 6 ts

-- ---- cards, players, registers, marks, general

-- "0 clean, 1 dirty, 2 clean and taken in this cycle, 3 dirty and taken"
pub record CardsOk (k : ℕ) (cs : List ℕ) : Type 0 where
  pub sized : length cs ≡ k
  pub states : (c : ℕ) → nth cs c ≤ 3

-- "owed card + 1 or 0; scanned, 0 or 1"; "Owed cards exist."
pub record PlayersOk (k : ℕ) (ps : List ℕ) : Type 0 where
  pub sized : length ps ≡ 32
  pub owed_ok : (p : ℕ) → nth ps (2 * p) ≤ k
  pub scanned_ok : (p : ℕ) → nth ps (2 * p + 1) ≤ 1

abbrev pub NilOr : (ℕ → Type 0) → ℕ → Type 0
NilOr P a = (a ≡ 0) ⊎ P a

-- "Links and registers are nil or starts."
pub record RegsOk (St : ℕ → Type 0) (rs : List ℕ) : Type 0 where
  pub sized : length rs ≡ 256
  pub values : (i : ℕ) → NilOr St (nth rs i)

-- "Marks stand only on starts."; document 02, (ii), "a count that differs from the mark bits makes it damaged": ms the marks, cs the counts
pub record MarksOk (w k : ℕ) (St : ℕ → Type 0) (ms cs : List ℕ) : Type 0 where
  pub exact : length ms ≡ 64 * k / w
  pub sized : (g : ℕ) → g < 64 * k → g / w < length ms
  pub on_starts : (g : ℕ) → bit w ms g ≡ true → St g
  pub counts_sized : length cs ≡ k
  pub counted : (c : ℕ) → c < k → nth cs c ≡ how_many (λ j. bit w ms (64 * c + j)) 64

-- "cycle running 0 or 1, first free run or 0, six zeros"
pub record GeneralOk (gs : List ℕ) : Type 0 where
  pub sized : length gs ≡ 8
  pub runs : nth gs 0 ≤ 1
  pub rest : (i : ℕ) → nth gs (suc (suc i)) ≡ 0

-- ---- the heap, with its start bits and first free run

pub record HeapOk (w k : ℕ) (hs ss : List ℕ) (next : ℕ) : Type 0 where
  pub sized : length hs ≡ 4 * (64 * k)
  pub starts_sized : length ss ≡ 64 * k / w
  pub blank : (i : ℕ) → i < 4 → nth hs i ≡ 0
  pub unused : bit w ss 0 ≡ false
  pub within : (g : ℕ) → bit w ss g ≡ true → g < 64 * k
  pub filled : fill (bit w ss) (64 * k) 1 (drop 4 hs) next false ≡ true
  pub links-ok : (g i : ℕ) → g < 64 * k → bit w ss g ≡ true → i < nth hs (4 * g + 1) → NilOr (λ a. (a < 64 * k) × (bit w ss a ≡ true)) (nth hs (4 * g + (2 + i)))

-- ---- an image

abbrev pub Start : Image → ℕ → Type 0
Start m g = (g < 64 * m.k) × (bit m.width m.starts g ≡ true)

abbrev pub Marked : Image → ℕ → Type 0
Marked m g = bit m.width m.marks g ≡ true

-- "An object in hand is marked and its next link is below its number of links."
abbrev pub InHand : Image → ℕ → ℕ → Type 0
InHand m g i = Marked m g × (i < nth m.heap (4 * g + 1))

-- "A card in hand is in state 2 or 3; its next granule lies on it or just past it."
abbrev pub CardInHand : Image → ℕ → ℕ → Type 0
CardInHand m x n = (x ≤ m.k) × (2 ≤ nth m.cards (x - 1)) × (64 * (x - 1) ≤ n) × (n ≤ 64 * x)

-- every line but idle and Cover
pub record Lines (m : Image) : Type 0 where
  pub heap_ok : HeapOk m.width m.k m.heap m.starts (nth m.general 1)
  pub regs_ok : RegsOk (Start m) m.regs
  pub cards_ok : CardsOk m.k m.cards
  pub marks_ok : MarksOk m.width m.k (Start m) m.marks m.counts
  pub packets_ok : PacketsOk (Marked m) m.packets
  pub tracers_ok : TracersOk (InHand m) (CardInHand m) m.tracers
  pub players_ok : PlayersOk m.k m.players
  pub general-ok : GeneralOk m.general

-- "With no cycle, marks, packets, tracers and scanned words are zero."
pub record Idle (ms ps ts us : List ℕ) : Type 0 where
  pub no_marks : (i : ℕ) → nth ms i ≡ 0
  pub no_packets : (i : ℕ) → nth ps i ≡ 0
  pub no_tracers : (i : ℕ) → nth ts i ≡ 0
  pub no_scanned : (p : ℕ) → nth us (2 * p + 1) ≡ 0

-- undamaged but for Cover
pub record Sound (m : Image) : Type 0 where
  pub lines : Lines m
  pub idle : nth m.general 0 ≡ 0 → Idle m.marks m.packets m.tracers m.players

pub record Undamaged (m : Image) : Type 0 where
  pub sound : Sound m
  pub cover : Cover m

-- ---- what the lengths of the sections give

pub record Sizes (m : Image) : Type 0 where
  pub heap_size : length m.heap ≡ 4 * (64 * m.k)
  pub starts_size : length m.starts ≡ 64 * m.k / m.width
  pub marks_size : length m.marks ≡ 64 * m.k / m.width
  pub starts_in : (g : ℕ) → bit m.width m.starts g ≡ true → g < 64 * m.k
  pub marks_in : (g : ℕ) → bit m.width m.marks g ≡ true → g < 64 * m.k
  pub marks_room : (g : ℕ) → g < 64 * m.k → g / m.width < length m.marks
  pub cards_size : length m.cards ≡ m.k
  pub counts_size : length m.counts ≡ m.k
  pub regs_size : length m.regs ≡ 256
  pub packets_size : length m.packets ≡ 1024
  pub tracers_size : length m.tracers ≡ 64
  pub players_size : length m.players ≡ 32
  pub general_size : length m.general ≡ 8

-- ---- an image whose words judging passes, at a width

pub record Passes (w : ℕ) (m : Image) : Type 0 where
  pub is_undamaged : Undamaged m
  pub same_width : m.width ≡ w
  pub cards_most : m.k ≤ most_cards w
