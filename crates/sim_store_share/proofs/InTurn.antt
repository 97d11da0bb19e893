-- Processes that are executed one after another.
use Rattle.std.proofs.Common.{ℕ, zero, suc, ◌+◌, ◌-◌, ◌<◌, ◌≤◌, ◌≡◌, ◌≢◌, ◌++◌, true, false, Bool, List, [], ◌∷◌, length, length-drop, get_or, set, take, drop}
use Rattle.std.proofs.Common.{refl, ap, sym, ◌∙◌, subst, arith, if◌then◌else◌}
use Rattle.std.proofs.Math.Decide.{dec_lt}
use Rattle.std.proofs.Math.Seq.{take-add}
use Rattle.std.proofs.lemmas.List.{get_or-drop, get_or-set_other, get_or-set_same, length-set, set-get_or, take_more}
use Rattle.std.proofs.lemmas.List.Elements.{All-drop, All-head, All-tail, All-take}
use Rattle.std.proofs.lemmas.Result.{on_ok_weaker}
use Rattle.std.specs.List.{All}
use Rattle.std.specs.Prelude.{Result, OnOk}
use Rattle.sim_flat_design.specs.Bodies.{Body}
use Rattle.sim_exec_statements.specs.Ready.{IsReady}
use Rattle.sim_exec_code.specs.Codes.{DoesNothing}
use Rattle.sim_exec_code.specs.Guards.{is_missing}
use Rattle.sim_exec_code.specs.Quick.{driven, quick_executed}
use Rattle.sim_exec_code.specs.declared.quick.SingleAssignment.{SingleAssignment}
use Rattle.sim_exec_code.proofs.Executions.{ready_after}
use Rattle.sim_standard.specs.Drivers.{DriverState}
use Rattle.sim_standard.specs.State.{Owned, all_drivers, driver_values, net_at, owned_at}
use Rattle.sim_standard.proofs.Names.{nothing_owned}
use Rattle.sim_store_share.specs.Assignments.{AreAssigned}
use Rattle.sim_store_share.specs.InTurn.{after_one, left_by, nets_in, process_in, AreExecuted, AreKept, IsBodyAt, IsExecutable, IsOther, IsReading, IsTurn}
use Rattle.sim_store_share.specs.declared.reading.Reading.{Reading}
use Rattle.sim_store_share.proofs.Putting.{own-values}

-- ---- one process owns something else

-- The drivers and variables of each process still fit its body.
ready-more : (time : ℕ) (owned owned' : List Owned) (n : ℕ) (own : Owned) → owned' ≡ set owned n own
    → ((body : Body) → IsReady body time (owned_at owned n) → IsReady body time (owned_at owned' n))
    → (p : ℕ) (body : Body) → IsReady body time (owned_at owned p) → IsReady body time (owned_at owned' p)
ready-more time owned owned' n own is here p body ready = go ready
  where
    other : p ≢ n → owned_at owned' p ≡ owned_at owned p
    other apart = ap (λ (w : List Owned). owned_at w p) is ∙ get_or-set_other owned n p own nothing_owned apart

    go : IsReady body time (owned_at owned p) → IsReady body time (owned_at owned' p)
    go r = elim (dec_lt p n) [
      | yes less ↦ subst (IsReady body time) (sym (other (omega (arith, less)))) r
      | no most ↦ elim (dec_lt n p) [
        | yes more ↦ subst (IsReady body time) (sym (other (omega (arith, more)))) r
        | no least ↦ (let same : n ≡ p = omega (arith, most, least) in
            subst (λ (k : ℕ). IsReady body time (owned_at owned' k)) same
            (here body (subst (λ (k : ℕ). IsReady body time (owned_at owned k)) (sym same) r)))
      ]
    ]

-- what is kept by the execution of one
pub one-kept : (r : Reading) (n : ℕ) (old new : List Owned) (own : Owned) → IsExecutable r old n → new ≡ set old (n - r.first) own
    → ((body : Body) → IsReady body r.time (owned_at old (n - r.first)) → IsReady body r.time (owned_at new (n - r.first)))
    → driver_values own.drivers ≡ driver_values (owned_at old (n - r.first)).drivers → AreKept r (n ∷ []) old new
one-kept r n old new own here is ready values = record {
  sized = ap length is ∙ length-set old (n - r.first) own;
  others = λ p other.
      let apart : p ≢ n - r.first = λ e. other 0 (omega arith) (omega (arith, e, here.from)) in
      ap (λ (w : List Owned). owned_at w p) is ∙ get_or-set_other old (n - r.first) p own nothing_owned apart;
  ready = ready-more r.time old new (n - r.first) own is ready;
  values = ap (λ (w : List Owned). driver_values (all_drivers w)) is ∙ own-values old (n - r.first) own values;
}

-- ---- processes that do nothing

-- what is left by a process that does nothing
idle-left : (r : Reading) (own : List Owned) (n : ℕ) → IsReading r → n < length r.processes.now → DoesNothing r.codes.now (net_at (nets_in r)) n
    → after_one r own n ≡ own
idle-left r own n reads lt idle =
    let process = process_in r n in
    let p = n - r.first in
    let same = idle process.body process.nets r.time (owned_at own p) (reads.codes.codes_are n) (reads.codes.nets_are n lt) in
    ap (set own p) same ∙ set-get_or own p nothing_owned

-- Processes that do nothing are executed, and all own what they owned.
idle-from : (r : Reading) (own : List Owned) (idle : List ℕ) → IsReading r → All (DoesNothing r.codes.now (net_at (nets_in r))) idle
    → All (IsExecutable r own) idle → AreExecuted r idle own own
idle-from r own [] reads nothing ready = refl
idle-from r own (n ∷ ns) reads nothing ready =
    let first = All-head (IsExecutable r own) n ns ready in
    let same = idle-left r own n reads first.number (All-head (DoesNothing r.codes.now (net_at (nets_in r))) n ns nothing) in
    let rest = idle-from r own ns reads (All-tail (DoesNothing r.codes.now (net_at (nets_in r))) n ns nothing)
    (All-tail (IsExecutable r own) n ns ready) in (
      subst (λ (g : List Owned). IsReady (process_in r n).body r.time (owned_at g (n - r.first))) (sym same) first.ready,
      subst (λ (g : List Owned). AreExecuted r ns g own) (sym same) rest,
    )

-- ---- executed one after another

-- those of a second list after those of a first
pub executed-then : (r : Reading) (numbers more : List ℕ) (old mid new : List Owned) → AreExecuted r numbers old mid → AreExecuted r more mid new
    → AreExecuted r (numbers ++ more) old new
executed-then r [] more old mid new first after = subst (λ (g : List Owned). AreExecuted r more g new) first after
executed-then r (n ∷ numbers) more old mid new first after = (first.0, executed-then r numbers more (after_one r old n) mid new first.1 after)

-- ---- what is kept

-- by some, and then by some of them
kept-then : (r : Reading) (numbers more : List ℕ) (old mid new : List Owned) → ((p : ℕ) → IsOther r numbers p → IsOther r more p)
    → AreKept r numbers old mid → AreKept r more mid new → AreKept r numbers old new
kept-then r numbers more old mid new among first after = record {
  sized = after.sized ∙ first.sized;
  others = λ p other. after.others p (among p other) ∙ first.others p other;
  ready = λ p body h. after.ready p body (first.ready p body h);
  values = after.values ∙ first.values;
}

-- by some, and then by one of them
pub kept-next : (r : Reading) (numbers : List ℕ) (k : ℕ) (old mid new : List Owned) → k < length numbers → AreKept r numbers old mid
    → AreKept r (get_or numbers k 0 ∷ []) mid new → AreKept r numbers old new
kept-next r numbers k old mid new lt = kept-then r numbers (get_or numbers k 0 ∷ []) old mid new (λ p other. go p (other k lt))
  where
    go : (p : ℕ) → get_or numbers k 0 ≢ r.first + p → IsOther r (get_or numbers k 0 ∷ []) p
    go p apart zero l = apart
    go p apart (suc j) l = absurd (omega (arith, l))

-- by some, and then by those that follow
pub kept-rest : (r : Reading) (numbers rest : List ℕ) (from : ℕ) (old mid new : List Owned) → rest ≡ drop from numbers → AreKept r numbers old mid
    → AreKept r rest mid new → AreKept r numbers old new
kept-rest r numbers rest from old mid new e = kept-then r numbers rest old mid new (λ p other.
    subst (λ (l : List ℕ). IsOther r l p) (sym e) (λ k lt.
    (let there : from + k < length numbers = omega (arith, lt, length-drop from numbers) in
    λ same. other (from + k) there (sym (get_or-drop from numbers k 0) ∙ same))))

-- One that can be executed still can be.
pub executable-still : (r : Reading) (numbers : List ℕ) (n : ℕ) (old mid : List Owned) → IsExecutable r old n → AreKept r numbers old mid
    → IsExecutable r mid n
executable-still r numbers n old mid was kept = record {
  from = was.from;
  number = was.number;
  owns = omega (arith, was.owns, kept.sized);
  ready = kept.ready (n - r.first) (process_in r n).body was.ready;
}

-- Those that follow can then still be executed.
pub executable-rest : (r : Reading) (numbers rest : List ℕ) (from : ℕ) (old mid : List Owned) → rest ≡ drop from numbers → All (IsExecutable r old) numbers
    → AreKept r numbers old mid → All (IsExecutable r mid) rest
executable-rest r numbers rest from old mid e each kept =
    subst (All (IsExecutable r mid)) (sym e) (λ k d lt.
    executable-still r numbers (get_or (drop from numbers) k d) old mid (All-drop (IsExecutable r old) from numbers each k d lt) kept)

-- ---- in turn

-- one more
pub turn-next : (r : Reading) (numbers : List ℕ) (k : ℕ) (old mid new : List Owned) → k < length numbers → IsTurn r numbers old mid k
    → AreExecuted r (get_or numbers k 0 ∷ []) mid new → IsTurn r numbers old new (k + 1)
turn-next r numbers k old mid new lt first after = record {
  within = omega (arith, lt);
  done = subst (λ (l : List ℕ). AreExecuted r l old new) (sym (take_more numbers k 0 lt))
      (executed-then r (take k numbers) (get_or numbers k 0 ∷ []) old mid new first.done after);
}

-- those that follow
pub turn-rest : (r : Reading) (numbers rest : List ℕ) (k count : ℕ) (old mid new : List Owned) → rest ≡ drop k numbers → IsTurn r numbers old mid k
    → IsTurn r rest mid new count → IsTurn r numbers old new (k + count)
turn-rest r numbers rest k count old mid new e first after = record {
  within = omega (arith, first.within, after.within, ap length e, length-drop k numbers);
  done = subst (λ (l : List ℕ). AreExecuted r l old new) (sym (take-add k count numbers ∙ ap (λ (l : List ℕ). take k numbers ++ take count l) (sym e)))
      (executed-then r (take k numbers) (take count rest) old mid new first.done after.done);
}

-- Processes that do nothing are executed.
pub turn-idle : (r : Reading) (numbers : List ℕ) (count : ℕ) (own : List Owned) → IsReading r → count ≤ length numbers
    → All (DoesNothing r.codes.now (net_at (nets_in r))) (take count numbers) → All (IsExecutable r own) numbers → IsTurn r numbers own own count
turn-idle r numbers count own reads le nothing each = record {
  within = le;
  done = idle-from r own (take count numbers) reads nothing (All-take (IsExecutable r own) count numbers each);
}

-- ---- one process

-- The process with a number is executed, if it owns what this leaves.
pub one-done : (r : Reading) (n : ℕ) (old new : List Owned) (own : Owned) → IsExecutable r old n → new ≡ set old (n - r.first) own
    → own ≡ left_by r n (owned_at old (n - r.first)) → IsReady (process_in r n).body r.time own → AreExecuted r (n ∷ []) old new
one-done r n old new own here e is ready =
    let p = n - r.first in
    let left = left_by r n (owned_at old p) in
    let there : owned_at (after_one r old n) p ≡ own = get_or-set_same old p left nothing_owned here.owns ∙ sym is in
    (subst (IsReady (process_in r n).body r.time) (sym there) ready, e ∙ ap (set old p) is)

-- what it leaves, if its body is an assignment
quick-left : (r : Reading) (n : ℕ) (q : SingleAssignment) (own : List Owned) → IsReading r → IsBodyAt r.codes.now n q → IsExecutable r own n
    → left_by r n (owned_at own (n - r.first)) ≡ quick_executed (net_at (nets_in r)) r.time q (owned_at own (n - r.first))
quick-left r n q own reads does here =
    let process = process_in r n in
    does (net_at (nets_in r)) process.body process.nets r.time (owned_at own (n - r.first)) (reads.codes.codes_are n) (reads.codes.nets_are n here.number)
    here.ready.variables

-- It is executed without its edge, and nothing changes.
pub idle-done : (r : Reading) (n : ℕ) (q : SingleAssignment) (own : List Owned) → IsReading r → IsBodyAt r.codes.now n q → IsExecutable r own n
    → is_missing (net_at (nets_in r)) q.edge ≡ true → AreExecuted r (n ∷ []) own own
idle-done r n q own reads does here missing =
    let p = n - r.first in
    let was = owned_at own p in
    let same : quick_executed (net_at (nets_in r)) r.time q was ≡ was =
    ap (λ (b : Bool). if b then was else record was { drivers = driven (net_at (nets_in r)) r.time q was.drivers }) missing in
    one-done r n own own was here (sym (set-get_or own p nothing_owned)) (sym (quick-left r n q own reads does here ∙ same)) here.ready

-- It is executed with its edge, if memory is not refused.
module _ {E : Type 0} (r : Reading) (n : ℕ) (q : SingleAssignment) (done : Result Unit E) (old new : List Owned) (here : IsExecutable r old n)
    (alone : new ≡ set old (n - r.first) (record (owned_at old (n - r.first)) { drivers = (owned_at new (n - r.first)).drivers }))
    (a : AreAssigned (net_at (nets_in r)) r.time q done (owned_at old (n - r.first)).drivers (owned_at new (n - r.first)).drivers) where
  abbrev was : Owned
  was = owned_at old (n - r.first)

  abbrev now_is : Owned
  now_is = record was { drivers = (owned_at new (n - r.first)).drivers }

  there : owned_at new (n - r.first) ≡ now_is
  there = ap (λ (w : List Owned). owned_at w (n - r.first)) alone ∙ get_or-set_same old (n - r.first) now_is nothing_owned here.owns

  fits : (body : Body) → IsReady body r.time was → IsReady body r.time now_is
  fits body ready = ready_after body r.time was.drivers now_is.drivers was.variables was.variables ready a.values refl a.pending

  pub assigned-kept : AreKept r (n ∷ []) old new
  assigned-kept = one-kept r n old new now_is here alone (λ body ready. subst (IsReady body r.time) (sym there) (fits body ready)) a.values

  pub assigned-done : IsReading r → IsBodyAt r.codes.now n q → is_missing (net_at (nets_in r)) q.edge ≡ false → OnOk done (AreExecuted r (n ∷ []) old new)
  assigned-done reads does occurs =
      let net = net_at (nets_in r) in
      let has : record was { drivers = driven net r.time q was.drivers } ≡ quick_executed net r.time q was =
      sym (ap (λ (b : Bool). if b then was else record was { drivers = driven net r.time q was.drivers }) occurs) in
      on_ok_weaker done (λ (is : now_is.drivers ≡ driven net r.time q was.drivers).
      one-done r n old new now_is here alone
      (ap (λ (ds : List DriverState). record was { drivers = ds }) is ∙ (has ∙ sym (quick-left r n q old reads does here)))
      (fits (process_in r n).body here.ready)) a.ok
