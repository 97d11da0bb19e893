-- Paths through the hierarchy, the block at each, and the port or signal that has the net of each (IEEE 1076-2008, 14.7).
use Rattle.std.specs.Prelude.{ℕ, zero, suc, ◌+◌, List, [], ◌∷◌, ◌++◌, Bool, true, false, if◌then◌else◌, map, length}
use Rattle.std.specs.Str.{bytes_eq}
use Rattle.sim_flat_blocks.specs.declared.links.Link.{Link}
use Rattle.sim_flat_blocks.specs.declared.links.Link.TheVariants.{To, Constant, Open}
use Rattle.sim_flat_blocks.specs.declared.parts.Object.{Object}
use Rattle.sim_flat_blocks.specs.declared.parts.Instance.{Instance}
use Rattle.sim_flat_blocks.specs.declared.parts.Block.{Block}
use Rattle.sim_flat_blocks.specs.Blocks.{objects, block_of, link_at, targets_of}

-- a step of a path: an instance, and its position in its architecture
pub record PathStep : Type 0 where
  pub instance : Instance
  pub place : ℕ

-- from the last step to the first
abbrev pub Path : Type 0
Path = List PathStep

abbrev pub places_of : Path → List ℕ
places_of p = map (λ (s : PathStep). s.place) p

-- ---- occurrences: the blocks at paths, in order, each before those inside it
pub record Occurrence : Type 0 where
  pub path : Path
  pub block : Block
  -- the number of levels allowed below it
  pub levels : ℕ

module _ (one : Path → Block → List Occurrence) (blocks : List Block) where
  -- the occurrences of these instances, in textual order
  unfoldable pub inner : Path → ℕ → List Instance → List Occurrence
  inner p j [] = []
  inner p j (i ∷ is) = one (record { instance = i; place = j } ∷ p) (block_of blocks i) ++ inner p (j + 1) is

unfoldable pub occurrences : List Block → ℕ → Path → Block → List Occurrence
occurrences blocks zero p b = []
occurrences blocks (suc k) p b = record { path = p; block = b; levels = k } ∷ inner (occurrences blocks k) blocks p 0 b.instances

-- ---- the object that has the net of a port or signal: actuals are followed outward as long as there is one

-- a port or signal at a path, by position
pub record Named : Type 0 where
  pub path : Path
  pub place : ℕ

-- its link
abbrev pub link_of : Path → ℕ → Link
link_of [] n = Open
link_of (s ∷ up) n = link_at s.instance.links n

abbrev pub linked_to : Link → (ℕ → Named) → Named → Named
linked_to (To m) up own = up m
linked_to (Constant value) up own = own
linked_to Open up own = own

unfoldable pub net_object : Path → ℕ → Named
net_object [] n = record { path = []; place = n }
net_object (s ∷ up) n = linked_to (link_at s.instance.links n) (net_object up) (record { path = s ∷ up; place = n })

-- ---- nets: the ports and signals that have nets of their own, as declared
abbrev pub is_own : Link → Bool
is_own (To m) = false
is_own (Constant value) = true
is_own Open = true

pub record Own : Type 0 where
  pub place : ℕ
  pub object : Object

-- those from this position
unfoldable pub own_from : Path → ℕ → List Object → List Own
own_from p n [] = []
own_from p n (o ∷ os) = if is_own (link_of p n) then record { place = n; object = o } ∷ own_from p (n + 1) os else own_from p (n + 1) os

abbrev pub own_at : Occurrence → List Own
own_at s = own_from s.path 0 (objects s.block)

-- the number of positions before this one that are nets
unfoldable pub own_before : Path → ℕ → ℕ
own_before p zero = 0
own_before p (suc n) = if is_own (link_of p n) then own_before p n + 1 else own_before p n

-- ---- numbers: how many precede it

abbrev pub net_count : Occurrence → ℕ
net_count s = length (own_at s)

abbrev pub process_count : Occurrence → ℕ
process_count s = length s.block.processes

abbrev pub driver_count : Occurrence → ℕ
driver_count s = length (targets_of s.block.processes)

-- the count over the occurrences before that of this path
unfoldable pub before : (Occurrence → ℕ) → List Occurrence → Path → ℕ
before count [] p = 0
before count (s ∷ ss) p = if bytes_eq (places_of s.path) (places_of p) then 0 else count s + before count ss p

-- the number of a net
unfoldable pub net_number : List Occurrence → Named → ℕ
net_number all o = before net_count all o.path + own_before o.path o.place
