-- Processes in one of several shares have been executed.
use Rattle.std.proofs.Common.{ℕ, zero, suc, ◌+◌, ◌-◌, ◌<◌, ◌≤◌, ◌≡◌, List, [], ◌∷◌, length, get_or, set, take, drop, ap, sym}
use Rattle.std.proofs.Common.{◌∙◌, subst, arith}
use Rattle.std.proofs.Math.Seq.{map-set_same}
use Rattle.std.proofs.lemmas.List.{get_or_default, take_all}
use Rattle.std.specs.List.{All}
use Rattle.sim_exec_statements.specs.Ready.{IsReady}
use Rattle.sim_standard.specs.State.{Owned}
use Rattle.sim_standard.proofs.Names.{nothing_owned}
use Rattle.sim_containers.specs.RowArray.{IsAt, joined}
use Rattle.sim_containers.proofs.Flat.{cut, cut-set}
use Rattle.sim_store_share.specs.InTurn.{process_in, AreExecuted, AreKept, IsExecutable}
use Rattle.sim_store_share.specs.declared.reading.Reading.{Reading}
use Rattle.sim_store_state.specs.InTurn.{AreKeptIn}
use Rattle.sim_store_state.proofs.Lifted.{own_reading, among, IsIn, own-here, executed-lifted, kept-lifted, kept-more}

-- the first of these numbers, and those that follow
pub all-next : (P : ℕ → Type 0) (numbers rest : List ℕ) (count : ℕ) → 0 < length numbers → rest ≡ take (length numbers - 1) (drop 1 numbers)
    → P (get_or numbers 0 0) → All P (take count rest) → All P (take (1 + count) numbers)
all-next P [] rest count some e p ps = absurd (omega (arith, some))
all-next P (n ∷ ns) rest count some e p ps =
    let same : rest ≡ ns = e ∙ take_all (suc (length ns) - 1) ns (omega arith) in
    let here : All P (take count ns) = subst (λ (l : List ℕ). All P (take count l)) same ps in
    let next : suc count ≡ 1 + count = omega arith in
    subst (λ (m : ℕ). All P (take m (n ∷ ns))) next (λ k d lt. go k d lt here)
  where
    go : (k d : ℕ) → k < length (take (suc count) (n ∷ ns)) → All P (take count ns) → P (get_or (take (suc count) (n ∷ ns)) k d)
    go zero d lt rest = p
    go (suc k) d lt rest = rest k d (omega (arith, lt))

module _ (r : Reading) (none : r.first ≡ 0) (shares : List (List Owned)) {number p i : ℕ} (at : IsAt shares number p i) (d new : List Owned) where
  abbrev front : List Owned
  front = joined (take p shares)

  abbrev back : List Owned
  back = joined (drop (suc p) shares)

  abbrev old : List Owned
  old = get_or shares p d

  abbrev pub here : Reading
  here = record r { first = number - i }

  first-is : length front ≡ number - i
  first-is = omega (arith, at.counted)

  reading-is : own_reading r front back none ≡ here
  reading-is = ap (λ (m : ℕ). record r { first = m }) first-is

  was : among r front back none old ≡ joined shares
  was = ap (among r front back none) (get_or_default shares p d [] at.among) ∙ sym (cut shares p at.among)

  now : among r front back none new ≡ joined (set shares p new)
  now = sym (cut-set shares p new at.among)

  -- The process with a number is in the share.
  abbrev pub IsHere : ℕ → Type 0
  IsHere n = (number - i ≤ n) × (n < number - i + length old)

  is-in : (n : ℕ) → IsHere n → IsIn r front back none old n
  is-in n h = (omega (arith, first-is, h.0), omega (arith, first-is, h.1))

  pub first-here : IsHere number
  first-here =
      let inside = at.inside in
      let long = ap (λ (xs : List Owned). length xs) (get_or_default shares p d [] at.among) in
      (omega (arith, at.counted), omega (arith, at.counted, inside, long))

  pub executable-in : (n : ℕ) → IsHere n → IsExecutable r (joined shares) n → IsExecutable here old n
  executable-in n h e = record {
    from = h.0;
    number = e.number;
    owns = omega (arith, h.0, h.1);
    ready = subst (IsReady (process_in r n).body r.time) (ap (λ (os : List Owned). get_or os (n - r.first) nothing_owned) (sym was)
        ∙ (own-here r front back none old n (is-in n h) ∙ ap (λ (m : ℕ). get_or old (n - m) nothing_owned) first-is)) e.ready;
  }

  pub executed-in : (numbers : List ℕ) → All IsHere numbers → AreExecuted here numbers old new
      → AreExecuted r numbers (joined shares) (joined (set shares p new))
  executed-in numbers each e =
      subst (λ (os : List Owned). AreExecuted r numbers os (joined (set shares p new))) was
      (subst (AreExecuted r numbers (among r front back none old)) now
      (executed-lifted r front back none numbers old new (λ k n lt. is-in _ (each k n lt))
      (subst (λ (s : Reading). AreExecuted s numbers old new) (sym reading-is) e)))

  pub kept-in : (numbers : List ℕ) (count : ℕ) → count ≤ length numbers → AreKept here (take count numbers) old new → AreKeptIn r numbers shares
      (set shares p new)
  kept-in numbers count le k = record {
    kept = kept-more r numbers count (joined shares) (joined (set shares p new)) le
        (subst (λ (os : List Owned). AreKept r (take count numbers) os (joined (set shares p new))) was
        (subst (AreKept r (take count numbers) (among r front back none old)) now
        (kept-lifted r front back none (take count numbers) old new
        (subst (λ (s : Reading). AreKept s (take count numbers) old new) (sym reading-is) k))));
    counts = map-set_same (λ (xs : List Owned). length xs) shares p new d k.sized;
  }
