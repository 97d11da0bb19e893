-- Sets of numbers and the words that hold them.
use Rattle.std.proofs.Common.{ℕ, zero, suc, ◌+◌, ◌/◌, ◌^◌, ◌<◌, ◌≤◌, ◌≡◌, ◌≢◌, eqb, Bool, true, false, not, List, length, get_or, set, refl, ap, sym}
use Rattle.std.proofs.Common.{◌∙◌, subst, arith, inl, inr, ◌⊎◌, Option, MatchOption}
use Rattle.std.proofs.Math.ListN.{replicate}
use Rattle.std.proofs.lemmas.Bool.Decides.{nat_tests}
use Rattle.std.proofs.lemmas.List.{ext_get_or, get_or-set_same, get_or-set_other, get_or_past, get_or-replicate, length-replicate, length-set}
use Rattle.std.proofs.lemmas.List.FromFn.{length-map-range_with_len, get_or-map-range_with_len}
use Rattle.sim_containers.specs.Words.{has, uses, AreTops, IsNext, NoneFrom}
use Rattle.sim_containers.specs.Numbers.{is_in, set_of, IsBitSet}
use Rattle.sim_containers.proofs.Bits.{not_both}
use Rattle.sim_containers.proofs.Places.{empty_word, unused}

pub length_set_of : (words : List ℕ) (count : ℕ) → length (set_of words count) ≡ count
length_set_of words count = length-map-range_with_len (has words) 0 count

at_set_of : (words : List ℕ) (count n : ℕ) → n < count → is_in (set_of words count) n ≡ has words n
at_set_of words count n l = get_or-map-range_with_len (has words) 0 count n n false l (omega arith)

pub length_of_view : (words : List ℕ) (count : ℕ) (set' : List Bool) → set_of words count ≡ set' → count ≡ length set'
length_of_view words count set' e = sym (length_set_of words count) ∙ ap length e

side : (i n : ℕ) → (i < n) ⊎ (n ≤ i)
side i n = grind arith

-- none is beyond the bound
beyond : (words tops : List ℕ) (count end : ℕ) → IsBitSet words tops count end → (n : ℕ) → count ≤ n → has words n ≡ false
beyond words tops count end i n le = let w : end ≤ count = i.within in i.none n (omega arith)

-- membership by the words
pub read : (words tops : List ℕ) (count end : ℕ) (set' : List Bool) → IsBitSet words tops count end → set_of words count ≡ set' → (n : ℕ)
    → has words n ≡ is_in set' n
read words tops count end set' i e n = go (side n count)
  where
    go : (n < count) ⊎ (count ≤ n) → has words n ≡ is_in set' n
    go (inl l) = sym (at_set_of words count n l) ∙ ap (λ (s : List Bool). is_in s n) e
    go (inr le) = let c = length_of_view words count set' e in beyond words tops count end i n le ∙ sym (get_or_past set' n false (omega arith))

pub next_read : (words tops : List ℕ) (count end : ℕ) (set' : List Bool) → IsBitSet words tops count end → set_of words count ≡ set'
    → (from : ℕ) (o : Option ℕ) → MatchOption o (NoneFrom (has words) from) (IsNext (has words) from)
    → MatchOption o (NoneFrom (is_in set') from) (IsNext (is_in set') from)
next_read words tops count end set' i e from o =
    subst (λ (p : ℕ → Bool). MatchOption o (NoneFrom p from) (IsNext p from)) (λ k n. read words tops count end set' i e n k)

-- the numbers of the words are below the bound
pub below_bound : (words tops : List ℕ) (count end : ℕ) → IsBitSet words tops count end → (n : ℕ) → has words n ≡ true → n < 2 ^ 64
below_bound words tops count end i n here = go (side n count)
  where
    go : (n < count) ⊎ (count ≤ n) → n < 2 ^ 64
    go (inl l) = let f : count < 2 ^ 64 = i.fits in omega arith
    go (inr le) = absurd (not_both (has words n) (beyond words tops count end i n le) here)

-- the words of a number
pub in_room : (words tops : List ℕ) (count end n : ℕ) (set' : List Bool) → IsBitSet words tops count end → set_of words count ≡ set' → n < length set'
    → (n < count) × (n / 64 < length words) × (n / 64 / 64 < length tops)
in_room words tops count end n set' i e l =
    let c = length_of_view words count set' e in
    let r : length words ≡ count / 64 + 1 = i.room in
    let t : length tops ≡ count / 4096 + 1 = i.tops_room in
    (omega arith, omega arith, omega arith)

-- a number is added or removed
pub set_marked : (old new : List ℕ) (count n : ℕ) (b : Bool) → n < count → has new n ≡ b → ((m : ℕ) → m ≢ n → has new m ≡ has old m)
    → set_of new count ≡ set (set_of old count) n b
set_marked old new count n b l here others =
    let x : length (set_of new count) ≡ count = length_set_of new count in
    let y : length (set_of old count) ≡ count = length_set_of old count in
    let z : length (set (set_of old count) n b) ≡ length (set_of old count) = length-set (set_of old count) n b in
    ext_get_or false (set_of new count) (set (set_of old count) n b) (omega arith) (λ m k. at_set_of new count m (omega arith)
    ∙ go m (omega arith) (eqb m n) refl)
  where
    go : (m : ℕ) → m < count → (t : Bool) → eqb m n ≡ t → has new m ≡ get_or (set (set_of old count) n b) m false
    go m k true q =
        let same : m ≡ n = grind (arith, nat_tests) in
        let y : length (set_of old count) ≡ count = length_set_of old count in
        ap (has new) same ∙ (here ∙ (sym (get_or-set_same (set_of old count) n b false (omega arith))
        ∙ ap (λ (j : ℕ). get_or (set (set_of old count) n b) j false) (sym same)))
    go m k false q =
        let differ : m ≢ n = grind (arith, nat_tests) in
        others m differ ∙ (sym (at_set_of old count m k) ∙ sym (get_or-set_other (set_of old count) n m b false differ))

-- the tops of the words in which a number is added or removed
tops_marked : (old new tops tops' : List ℕ) (n : ℕ) → ((k : ℕ) → k ≢ n / 64 → get_or new k 0 ≡ get_or old k 0) → has tops' (n / 64) ≡ uses new (n / 64)
    → ((m : ℕ) → m ≢ n / 64 → has tops' m ≡ has tops m) → AreTops old tops → AreTops new tops'
tops_marked old new tops tops' n words here others same k = go (eqb k (n / 64)) refl
  where
    go : (b : Bool) → eqb k (n / 64) ≡ b → has tops' k ≡ uses new k
    go true q = let at : k ≡ n / 64 = grind (arith, nat_tests) in ap (has tops') at ∙ (here ∙ ap (uses new) (sym at))
    go false q =
        let differ : k ≢ n / 64 = grind (arith, nat_tests) in
        others k differ ∙ (same k ∙ ap (λ (w : ℕ). not (eqb w 0)) (sym (words k differ)))

pub still_set : (old new tops tops' : List ℕ) (count end end' n : ℕ) → n < count → length new ≡ length old → length tops' ≡ length tops
    → ((m : ℕ) → m ≢ n → has new m ≡ has old m) → ((k : ℕ) → k ≢ n / 64 → get_or new k 0 ≡ get_or old k 0)
    → has tops' (n / 64) ≡ uses new (n / 64) → ((m : ℕ) → m ≢ n / 64 → has tops' m ≡ has tops m) → end ≤ end' → n < end' → end' ≤ count
    → IsBitSet old tops count end → IsBitSet new tops' count end'
still_set old new tops tops' count end end' n l len tops_len others words here tops_others further past within i =
    record {
      room = len ∙ i.room;
      tops_room = tops_len ∙ i.tops_room;
      used = tops_marked old new tops tops' n words here tops_others i.used;
      within = within;
      none = λ m k. others m (omega arith) ∙ i.none m (omega arith);
      empty = λ k le. words k (omega arith) ∙ i.empty k (omega arith);
      fits = i.fits;
    }

-- none is beyond the end
pub none_beyond : (words tops : List ℕ) (count end : ℕ) (set' : List Bool) → IsBitSet words tops count end → set_of words count ≡ set'
    → (n : ℕ) → end ≤ n → is_in set' n ≡ false
none_beyond words tops count end set' i e n le = sym (read words tops count end set' i e n) ∙ i.none n le

-- the words before the next one in use are clear
pub clear_before : (words old tops old_tops : List ℕ) (from place : ℕ) → AreTops old old_tops → ((k : ℕ) → from ≤ k → has tops k ≡ has old_tops k)
    → IsNext (has tops) from place → ((k : ℕ) → k < from → get_or words k 0 ≡ 0) → ((k : ℕ) → from ≤ k → get_or words k 0 ≡ get_or old k 0)
    → (k : ℕ) → k < place → get_or words k 0 ≡ 0
clear_before words old tops old_tops from place tops_are same next none rest k l = go (side k from)
  where
    go : (k < from) ⊎ (from ≤ k) → get_or words k 0 ≡ 0
    go (inl lt) = none k lt
    go (inr le) = rest k le ∙ empty_word old k (sym (tops_are k) ∙ (sym (same k le) ∙ next.first k le l))

-- and so is that one, once it is cleared
pub clear_up_to : (words : List ℕ) (place : ℕ) → place < length words → ((k : ℕ) → k < place → get_or words k 0 ≡ 0)
    → (k : ℕ) → k < place + 1 → get_or (set words place 0) k 0 ≡ 0
clear_up_to words place within before k l = go (eqb k place) refl
  where
    go : (b : Bool) → eqb k place ≡ b → get_or (set words place 0) k 0 ≡ 0
    go true q =
        let at : k ≡ place = grind (arith, nat_tests) in
        ap (λ (j : ℕ). get_or (set words place 0) j 0) at ∙ get_or-set_same words place 0 0 within
    go false q =
        let differ : k ≢ place = grind (arith, nat_tests) in
        get_or-set_other words place k 0 0 differ ∙ before k (omega (arith, l, differ))

-- no number is there up to a position, if the one at the position is removed
pub none_up_to : (old new : List ℕ) (place : ℕ) → has new place ≡ false → ((m : ℕ) → m ≢ place → has new m ≡ has old m)
    → ((k : ℕ) → k < place → has old k ≡ false) → (k : ℕ) → k < place + 1 → has new k ≡ false
none_up_to old new place here others before k l = go (eqb k place) refl
  where
    go : (b : Bool) → eqb k place ≡ b → has new k ≡ false
    go true q = let at : k ≡ place = grind (arith, nat_tests) in ap (has new) at ∙ here
    go false q = let differ : k ≢ place = grind (arith, nat_tests) in others k differ ∙ before k (omega (arith, l, differ))

-- no member
pub no_members : (words : List ℕ) (count : ℕ) → ((k : ℕ) → get_or words k 0 ≡ 0) → set_of words count ≡ replicate count false
no_members words count none =
    let a : length (set_of words count) ≡ count = length_set_of words count in
    let b : length (replicate count false) ≡ count = length-replicate count false in
    ext_get_or false (set_of words count) (replicate count false) (omega arith)
    (λ n l. at_set_of words count n (omega arith) ∙ (unused words n (none (n / 64)) ∙ sym (get_or-replicate count n false false (omega arith))))

-- equal at each index
pub all_same : (set' : List Bool) (n : ℕ) (b : Bool) → length set' ≡ n → ((k : ℕ) → k < n → is_in set' k ≡ b) → set' ≡ replicate n b
all_same set' n b len same =
    let l : length (replicate n b) ≡ n = length-replicate n b in
    ext_get_or false set' (replicate n b) (omega arith) (λ k lt. same k (omega arith) ∙ sym (get_or-replicate n k b false (omega arith)))

pub in_none : (n k : ℕ) → is_in (replicate n false) k ≡ false
in_none zero k = refl
in_none (suc n) zero = refl
in_none (suc n) (suc k) = in_none n k

-- a member is below the bound
pub member_within : (set' : List Bool) (n : ℕ) → is_in set' n ≡ true → n < length set'
member_within set' n here = go (side n (length set'))
  where
    go : (n < length set') ⊎ (length set' ≤ n) → n < length set'
    go (inl l) = l
    go (inr le) = absurd (not_both (is_in set' n) (get_or_past set' n false le) here)

pub no_member : (set' : List Bool) → NoneFrom (is_in set') 0 → set' ≡ replicate (length set') false
no_member set' none = all_same set' (length set') false refl (λ k l. none k (omega arith))

pub some_member : (set' : List Bool) (n : ℕ) → is_in set' n ≡ true → set' ≡ replicate (length set') false → ⊥
some_member set' n here e =
    not_both (is_in set' n) (ap (λ (s : List Bool). is_in s n) e ∙ in_none (length set') n) here
