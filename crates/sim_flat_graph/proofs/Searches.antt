-- A search marks exactly the numbers reached: it finds only these, visits each one found, and there are no more than there are blocks.
use Rattle.std.proofs.Common.{◌≡◌, ℕ, zero, suc, ◌+◌, ◌<◌, ◌≤◌, ◌↔◌, List, [], ◌∷◌, ◌++◌, Bool, true, false, Some, None, length, get_or}
use Rattle.std.proofs.Common.{refl, ap, sym, ◌∙◌, subst, arith, All, length-append, slice_get, slice_set, replicate, ◌⊎◌, inl, inr}
use Rattle.std.specs.List.{Contains}
use Rattle.std.proofs.Math.ListN.{get_or-append}
use Rattle.std.proofs.lemmas.List.{get_or-set_same, length-set, get_or_past, length-replicate}
use Rattle.std.proofs.lemmas.List.Elements.{All-contains, All-push, Contains-append_left, Contains-push, Contains-get_or}
use Rattle.std.proofs.lemmas.Grind.{get_or_default_zero}
use Rattle.std.proofs.lemmas.Option.{get_or_from_slice_get, slice_get_cases}
use Rattle.sim_flat_graph.specs.Graph.{Graph, successors, Reaches, Here, Along, IsWhole}
use Rattle.sim_flat_graph.proofs.Lists.{by_cases, by_order}
use Rattle.sim_flat_graph.specs.Search.{Found, noted, all_noted, begun, successors_of, searched}

-- ---- the number of marks
bit : Bool → ℕ
bit true = 1
bit false = 0

count : List Bool → ℕ
count [] = 0
count (b ∷ bs) = bit b + count bs

bit_off : (b : Bool) → b ≡ false → bit b ≡ 0
unfolding bit
bit_off true h = cc
bit_off false h = refl

bit_most : (b : Bool) → bit b ≤ 1
unfolding bit
bit_most true = omega arith
bit_most false = omega arith

count_set : (bs : List Bool) (n : ℕ) → n < length bs → get_or bs n false ≡ false → count (slice_set bs n true) ≡ count bs + 1
unfolding count bit
count_set [] n lt h = absurd (omega arith)
count_set (b ∷ bs) zero lt h = let e = bit_off b h in omega arith
count_set (b ∷ bs) (suc n) lt h = let e = count_set bs n (omega arith) h in omega arith

count_most : (bs : List Bool) → count bs ≤ length bs
unfolding count
count_most [] = omega arith
count_most (b ∷ bs) = let x = bit_most b in let y = count_most bs in omega arith

count_none : (n : ℕ) → count (replicate n false) ≡ 0
unfolding count bit
count_none zero = refl
count_none (suc n) = let e = count_none n in omega arith

none_at : (k n : ℕ) → get_or (replicate k false) n false ≡ false
none_at zero n = refl
none_at (suc k) zero = refl
none_at (suc k) (suc n) = none_at k n

-- ---- the invariant of a search
abbrev pub IsMarked : Found → ℕ → Type 0
IsMarked f n = get_or f.marks n false ≡ true

record IsFound (g : Graph) (from : ℕ) (f : Found) : Type 0 where
  size : length f.marks ≡ length g
  number : count f.marks ≡ length f.order
  sound : (n : ℕ) → IsMarked f n → Reaches g n from
  listed : (n : ℕ) → IsMarked f n → Contains f.order n
  marked : All (IsMarked f) f.order

record Grows (f more : Found) : Type 0 where
  marks : (n : ℕ) → IsMarked f n → IsMarked more n
  shorter : length f.order ≤ length more.order
  order : (k : ℕ) → k < length f.order → get_or more.order k 0 ≡ get_or f.order k 0

-- ---- one more is recorded
record IsNoted (f more : Found) (n : ℕ) : Type 0 where
  grows : Grows f more
  there : IsMarked more n

same_grows : (f : Found) → Grows f f
same_grows f = record { marks = λ n h. h; shorter = omega arith; order = λ k lt. refl }

grows_on : (a b c : Found) → Grows a b → Grows b c → Grows a c
grows_on a b c x y = record {
  marks = λ n h. y.marks n (x.marks n h);
  shorter = (let p = x.shorter in let q = y.shorter in omega arith);
  order = λ k lt. y.order k (let p = x.shorter in omega arith) ∙ x.order k lt;
}

-- the search with one more
abbrev pub with_one : Found → ℕ → Found
with_one f n = record { marks = slice_set f.marks n true; order = f.order ++ n ∷ [] }

still : (bs : List Bool) (n m : ℕ) → n < length bs → get_or bs m false ≡ true → get_or (slice_set bs n true) m false ≡ true
still [] n m lt h = absurd (omega arith)
still (b ∷ bs) zero zero lt h = refl
still (b ∷ bs) zero (suc m) lt h = h
still (b ∷ bs) (suc n) zero lt h = h
still (b ∷ bs) (suc n) (suc m) lt h = still bs n m (omega arith) h

-- a marked number was marked before, or is this one
was : {P : Type 0} (bs : List Bool) (n m : ℕ) → n < length bs → get_or (slice_set bs n true) m false ≡ true → (get_or bs m false ≡ true → P) → (m ≡ n → P) → P
was [] n m lt h f g = absurd (omega arith)
was (b ∷ bs) zero zero lt h f g = g refl
was (b ∷ bs) zero (suc m) lt h f g = f h
was (b ∷ bs) (suc n) zero lt h f g = f h
was (b ∷ bs) (suc n) (suc m) lt h f g = was bs n m (omega arith) h f (λ e. g (ap suc e))

one_grows : (f : Found) (n : ℕ) → n < length f.marks → Grows f (with_one f n)
one_grows f n lt = record {
  marks = λ m h. still f.marks n m lt h;
  shorter = (let e = length-append f.order (n ∷ []) in omega arith);
  order = λ k less. get_or-append f.order (n ∷ []) 0 k less;
}

noted_is : (f : Found) (n : ℕ) → n < length f.marks → IsNoted f (noted f n) n
unfolding noted
noted_is f n lt =
    by_cases (get_or f.marks n false)
    (λ t. rw t (record { grows = same_grows f; there = t }))
    (λ t. rw t (record { grows = one_grows f n lt; there = get_or-set_same f.marks n true false lt }))

-- the invariant, with one more number that is reached
one_found : (g : Graph) (from : ℕ) (f : Found) (n : ℕ) → n < length f.marks → get_or f.marks n false ≡ false → Reaches g n from → IsFound g from f
    → IsFound g from (with_one f n)
one_found g from f n lt off reached known = record {
  size = length-set f.marks n true ∙ known.size;
  number = (let a = count_set f.marks n lt off in let b = length-append f.order (n ∷ []) in let c = known.number in omega arith);
  sound = λ m h. was f.marks n m lt h (known.sound m) (λ e. subst (λ (k : ℕ). Reaches g k from) (sym e) reached);
  listed = λ m h. was f.marks n m lt h (λ t. Contains-append_left f.order (n ∷ []) m (known.listed m t))
      (λ e. subst (Contains (f.order ++ n ∷ [])) (sym e) (Contains-push f.order n));
  marked = All-push (IsMarked (with_one f n)) f.order n (λ k d less. still f.marks n (get_or f.order k d) lt (known.marked k d less))
      (get_or-set_same f.marks n true false lt);
}

noted_found : (g : Graph) (from : ℕ) (f : Found) (n : ℕ) → n < length g → Reaches g n from → IsFound g from f → IsFound g from (noted f n)
unfolding noted
noted_found g from f n lt reached known =
    let less : n < length f.marks = (let e = known.size in omega arith) in
    by_cases (get_or f.marks n false) (λ t. rw t known) (λ t. rw t (one_found g from f n less t reached known))

noted_size : (f : Found) (n : ℕ) → length (noted f n).marks ≡ length f.marks
unfolding noted
noted_size f n = by_cases (get_or f.marks n false) (λ t. rw t refl) (λ t. rw t (length-set f.marks n true))

-- ---- all numbers of a list are recorded
record AreNoted (f more : Found) (ns : List ℕ) : Type 0 where
  grows : Grows f more
  there : All (IsMarked more) ns

all_noted_are : (f : Found) (ns : List ℕ) → All (λ n. n < length f.marks) ns → AreNoted f (all_noted f ns) ns
unfolding all_noted
all_noted_are f [] lt = record { grows = same_grows f; there = λ k d less. absurd (omega arith) }
all_noted_are f (n ∷ ns) lt =
    let less : n < length f.marks = lt 0 0 (omega arith) in
    let one = noted_is f n less in
    let more = all_noted_are (noted f n) ns (λ k d below. rw (noted_size f n) (lt (suc k) d (omega arith))) in
    record { grows = grows_on f (noted f n) (all_noted (noted f n) ns) one.grows more.grows; there = first_there one.there more }
  where
    first_there : IsMarked (noted f n) n → AreNoted (noted f n) (all_noted (noted f n) ns) ns → All (IsMarked (all_noted (noted f n) ns)) (n ∷ ns)
    first_there h more zero d below = more.grows.marks n h
    first_there h more (suc k) d below = more.there k d (omega arith)

all_noted_found : (g : Graph) (from : ℕ) (f : Found) (ns : List ℕ) → All (λ n. n < length g) ns → All (λ n. Reaches g n from) ns → IsFound g from f
    → IsFound g from (all_noted f ns)
unfolding all_noted
all_noted_found g from f [] lt reached known = known
all_noted_found g from f (n ∷ ns) lt reached known =
    all_noted_found g from (noted f n) ns (λ k d below. lt (suc k) d (omega arith)) (λ k d below. reached (suc k) d (omega arith))
    (noted_found g from f n (lt 0 0 (omega arith)) (reached 0 0 (omega arith)) known)

-- ---- the search after some iterations: the numbers to which those visited lead are marked
record IsSearched (g : Graph) (from at : ℕ) (f : Found) : Type 0 where
  found : IsFound g from f
  shown : IsMarked f from
  looked : (k : ℕ) → k < at → k < length f.order → All (IsMarked f) (successors g (get_or f.order k 0))

whole_at : (g : Graph) (n : ℕ) → IsWhole g → All (λ m. m < length g) (successors g n)
whole_at g n whole =
    by_order n (length g) (λ less. whole n [] less)
    (λ past. let e : successors g n ≡ [] = get_or_past g n [] past in rw e (λ k d less. absurd (omega arith)))

nothing : (g : Graph) (from : ℕ) → IsFound g from (record { marks = replicate (length g) false; order = [] })
nothing g from = record {
  size = length-replicate (length g) false;
  number = count_none (length g);
  sound = λ n h. absurd (off n h);
  listed = λ n h. absurd (off n h);
  marked = λ k d less. absurd (omega arith);
}
  where
    off : (n : ℕ) → get_or (replicate (length g) false) n false ≡ true → ⊥
    off n h = let e = none_at (length g) n in cc

begun_found : (g : Graph) (from : ℕ) → from < length g → IsSearched g from 0 (begun g from)
begun_found g from lt =
    let empty : Found = record { marks = replicate (length g) false; order = [] } in
    let less : from < length empty.marks = (let e = length-replicate (length g) false in omega arith) in
    record {
      found = noted_found g from empty from lt Here (nothing g from);
      shown = (noted_is empty from less).there;
      looked = λ k less. absurd (omega arith);
    }

-- one more step at the end
pub one_step : (g : Graph) (n m a : ℕ) → Reaches g n a → Contains (successors g n) m → Reaches g m a
one_step g n m a Here among = Along a m among Here
one_step g n m a (Along x next first rest) among = Along a next first (one_step g n m next rest among)

pub reached_all : (g : Graph) (from n : ℕ) → Reaches g n from → All (λ m. Reaches g m from) (successors g n)
reached_all g from n reached k d less = one_step g n (get_or (successors g n) k d) from reached (Contains-get_or (successors g n) k d less)

within : (g : Graph) (from : ℕ) (f : Found) → IsFound g from f → length f.order ≤ length g
within g from f known = let a = count_most f.marks in let b = known.size in let c = known.number in omega arith

-- visited before, or now
looked_on : (g : Graph) (from at : ℕ) (f more : Found) → IsSearched g from at f → Grows f more
    → length f.order ≤ at ⊎ All (IsMarked more) (successors g (get_or f.order at 0))
    → (k : ℕ) → k < at + 1 → k < length f.order → All (IsMarked more) (successors g (get_or f.order k 0))
looked_on g from at f more s grows now k lt before =
    by_order k at (λ less j d below. grows.marks (get_or (successors g (get_or f.order k 0)) j d) (s.looked k less before j d below)) (λ last. by_now now last)
  where
    by_now : length f.order ≤ at ⊎ All (IsMarked more) (successors g (get_or f.order at 0)) → at ≤ k → All (IsMarked more) (successors g (get_or f.order k 0))
    by_now (inl long) last = absurd (omega arith)
    by_now (inr all) last = let e : k ≡ at = omega arith in rw e all

-- one iteration
turned : (g : Graph) (from at : ℕ) (f : Found) → IsWhole g → IsSearched g from at f
    → IsSearched g from (at + 1) (all_noted f (successors_of g (slice_get f.order at)))
unfolding all_noted
turned g from at f whole s = by_place (slice_get_cases f.order at).1
  where
    by_place : ((x : ℕ) × (at < length f.order) × (slice_get f.order at ≡ Some x) × (get_or f.order at x
        ≡ x)) ⊎ ((length f.order ≤ at) × (slice_get f.order at ≡ None))
        → IsSearched g from (at + 1) (all_noted f (successors_of g (slice_get f.order at)))
    by_place (inr past) = rw past.1 (record {
      found = s.found;
      shown = s.shown;
      looked = λ k lt less. looked_on g from at f f s (same_grows f) (inl past.0) k lt less;
    })
    by_place (inl (x, less, is, same)) =
        let inside : All (λ m. m < length f.marks) (successors g x) = rw s.found.size (whole_at g x whole) in
        let marked : IsMarked f x = subst (IsMarked f) same (s.found.marked at x less) in
        let noted = all_noted_are f (successors g x) inside in
        let found = all_noted_found g from f (successors g x) (whole_at g x whole) (reached_all g from x (s.found.sound x marked)) s.found in
        let here : get_or f.order at 0 ≡ x = get_or_from_slice_get f.order at x 0 is in
        rw is (record {
          found = found;
          shown = noted.grows.marks from s.shown;
          looked = λ k lt below.
              let before : k < length f.order = omega arith in
              rw (noted.grows.order k before) (looked_on g from at f (all_noted f (successors g x)) s noted.grows (inr (rw here noted.there)) k lt before);
        })

searched_is : (g : Graph) (from at : ℕ) → IsWhole g → from < length g → IsSearched g from at (searched g from at)
unfolding searched
searched_is g from zero whole lt = begun_found g from lt
searched_is g from (suc at) whole lt =
    let e : at + 1 ≡ suc at = omega arith in
    subst (λ (n : ℕ). IsSearched g from n (searched g from (suc at))) e (turned g from at (searched g from at) whole (searched_is g from at whole lt))

-- the numbers reached from a marked one are marked, once all that were found are visited
marked_on : (g : Graph) (from : ℕ) (f : Found) → IsSearched g from (length g) f → (n a : ℕ) → IsMarked f a → Reaches g n a → IsMarked f n
marked_on g from f s n a h Here = h
marked_on g from f s n a h (Along x next among rest) =
    let at : Contains f.order a = s.found.listed a h in
    let k = at.0 in
    let is : get_or f.order k 0 ≡ a = sym (get_or_default_zero f.order k a at.1) ∙ at.2 in
    let all : All (IsMarked f) (successors g a) = subst (λ (b : ℕ). All (IsMarked f) (successors g b)) is
    (s.looked k (let w = within g from f s.found in let l = at.1 in omega arith) at.1) in
    marked_on g from f s n next (All-contains (IsMarked f) (successors g a) next all among) rest

pub marks_reached : (g : Graph) (from n : ℕ) → IsWhole g → from < length g → (get_or (searched g from (length g)).marks n false ≡ true) ↔ Reaches g n from
marks_reached g from n whole lt =
    let s = searched_is g from (length g) whole lt in
    (s.found.sound n, marked_on g from (searched g from (length g)) s n from s.shown)
