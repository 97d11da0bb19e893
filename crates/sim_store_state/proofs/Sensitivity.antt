-- The processes that resume are those sensitive to a net with an event.
use Rattle.std.proofs.Common.{ℕ, zero, suc, ◌+◌, ◌<◌, ◌≡◌, ◌==◌, ◌++◌, ◌||◌, ◌&&◌, eqb, Bool, true, List, [], ◌∷◌, length, get_or}
use Rattle.std.proofs.Common.{take, refl, ap, sym, ◌∙◌, arith, inl, inr}
use Rattle.std.proofs.lemmas.Bool.Decides.{nat_tests}
use Rattle.sim_logic.specs.declared.logic.Logic.{Logic}
use Rattle.sim_flat_design.specs.Processes.{Process}
use Rattle.sim_standard.specs.declared.net_view.NetView.{NetView}
use Rattle.sim_standard.specs.State.{net_at}
use Rattle.sim_standard.specs.Processes.{process_at}
use Rattle.sim_store_state.specs.Sensitive.{AreSensitive, is_sensitive, is_resumed_by, has_event_in}
use Rattle.sim_standard.specs.Orders.{is_among}
use Rattle.sim_containers.specs.Numbers as contained
use Rattle.sim_store_state.specs.declared.log.Entry.{Entry}
use Rattle.sim_store_state.specs.Log.{changes_of}
use Rattle.sim_store_state.proofs.Logged.{changes-more}
use Rattle.sim_store_nets.proofs.Booleans.{or_true, or_left, or_right, and_left, and_right, both_true, same_bools, or_false, or-assoc, or-turn}
use Rattle.sim_store_nets.proofs.Booleans.{and-or, among-more}

-- ---- processes sensitive to a net with an event

abbrev has_event : List NetView → ℕ → Bool
has_event nets n = (net_at nets n).event

-- a net with an event to which a process is sensitive
record SensitiveNet (nets : List NetView) (sensitive : List (List ℕ)) (p : ℕ) : Type 0 where
  net : ℕ
  there : net < length sensitive
  event : has_event nets net ≡ true
  sensitive_it : is_among (get_or sensitive net []) p ≡ true

sensitive_net : (nets : List NetView) (sensitive : List (List ℕ)) (p : ℕ) → is_sensitive nets sensitive p ≡ true → SensitiveNet nets sensitive p
sensitive_net [] sensitive p e = absurd cc
sensitive_net (v ∷ nets) [] p e = absurd cc
sensitive_net (v ∷ nets) (ps ∷ sensitive) p e = elim (or_true (v.event && is_among ps p) (is_sensitive nets sensitive p) e) [
  | inl h ↦ record { net = 0; there = omega arith; event = and_left v.event (is_among ps p) h; sensitive_it = and_right v.event (is_among ps p) h }
  | inr h ↦ (let w = sensitive_net nets sensitive p h in record {
    net = suc w.net;
    there = omega (
      arith,
      w.there,
    );
    event = w.event;
    sensitive_it = w.sensitive_it;
  })
]

net_resumes : (nets : List NetView) (sensitive : List (List ℕ)) (p n : ℕ) → has_event nets n ≡ true → is_among (get_or sensitive n []) p ≡ true
    → is_sensitive nets sensitive p ≡ true
net_resumes [] sensitive p n e f = e
net_resumes (v ∷ nets) [] p n e f = f
net_resumes (v ∷ nets) (ps ∷ sensitive) p zero e f = or_left (v.event && is_among ps p) (is_sensitive nets sensitive p) (both_true v.event (is_among ps p) e f)
net_resumes (v ∷ nets) (ps ∷ sensitive) p (suc n) e f =
    or_right (v.event && is_among ps p) (is_sensitive nets sensitive p) (net_resumes nets sensitive p n e f)

-- a net of a list with an event
record Changed (nets : List NetView) (ns : List ℕ) : Type 0 where
  net : ℕ
  among : is_among ns net ≡ true
  event : has_event nets net ≡ true

event-changed : (nets : List NetView) (ns : List ℕ) → has_event_in nets ns ≡ true → Changed nets ns
event-changed nets [] e = absurd cc
event-changed nets (n ∷ ns) e = elim (or_true (has_event nets n) (has_event_in nets ns) e) [
  | inl h ↦ (let t : eqb n n ≡ true = grind (arith, nat_tests) in record { net = n; among = or_left (n == n) (is_among ns n) t; event = h })
  | inr h ↦ (let w = event-changed nets ns h in record { net = w.net; among = or_right (n == w.net) (is_among ns w.net) w.among; event = w.event })
]

changed-event : (nets : List NetView) (ns : List ℕ) (n : ℕ) → is_among ns n ≡ true → has_event nets n ≡ true → has_event_in nets ns ≡ true
changed-event nets [] n e f = e
changed-event nets (m ∷ ns) n e f = elim (or_true (m == n) (is_among ns n) e) [
  | inl h ↦ (let t : m ≡ n = grind (arith, nat_tests) in or_left (has_event nets m) (has_event_in nets ns) (ap (has_event nets) t ∙ f))
  | inr h ↦ or_right (has_event nets m) (has_event_in nets ns) (changed-event nets ns n h f)
]

-- a net with an event is there
event-there : (nets : List NetView) (n : ℕ) → has_event nets n ≡ true → n < length nets
event-there [] n e = absurd cc
event-there (v ∷ nets) zero e = omega arith
event-there (v ∷ nets) (suc n) e = let h = event-there nets n e in omega (arith, h)

pub sensitive-event : (nets : List NetView) (sensitive : List (List ℕ)) (processes : List Process) (p : ℕ) → length sensitive ≡ length nets
    → AreSensitive processes sensitive
    → is_sensitive nets sensitive p ≡ has_event_in nets (process_at processes p).sensitivity
sensitive-event nets sensitive processes p same w = same_bools _ _
    (λ e. let k = sensitive_net nets sensitive p e in changed-event nets (process_at processes p).sensitivity k.net (sym (w k.net p k.there)
    ∙ k.sensitive_it) k.event)
    (λ e. let k = event-changed nets (process_at processes p).sensitivity e in
    let there : k.net < length sensitive = omega (arith, same, event-there nets k.net k.event) in
    net_resumes nets sensitive p k.net k.event (w k.net p there ∙ k.among))

-- ---- resuming

resumed-by-append : (sensitive : List (List ℕ)) (xs ys : List (ℕ × Logic)) (p : ℕ)
    → is_resumed_by sensitive (xs ++ ys) p ≡ (is_resumed_by sensitive xs p || is_resumed_by sensitive ys p)
resumed-by-append sensitive [] ys p = refl
resumed-by-append sensitive (x ∷ xs) ys p =
    let here = is_among (get_or sensitive x.0 []) p in
    ap (λ b. here || b) (resumed-by-append sensitive xs ys p) ∙ sym (or-assoc here (is_resumed_by sensitive xs p) (is_resumed_by sensitive ys p))

-- the processes sensitive to the net of one more entry resume, after those sensitive to the nets before it
pub resumed-by-entry : (sensitive : List (List ℕ)) (entries : List Entry) (i p : ℕ) (d : Entry) (was now new : Bool) → i < length entries
    → now ≡ (is_resumed_by sensitive (changes_of (take i entries)) p || was)
    → new ≡ (is_resumed_by sensitive (changes_of (get_or entries i d ∷ [])) p || now)
    → new ≡ (is_resumed_by sensitive (changes_of (take (i + 1) entries)) p || was)
resumed-by-entry sensitive entries i p d was now new lt en ew =
    let here = is_resumed_by sensitive (changes_of (get_or entries i d ∷ [])) p in
    let before = is_resumed_by sensitive (changes_of (take i entries)) p in
    let more : is_resumed_by sensitive (changes_of (take (i + 1) entries)) p ≡ (before || here) =
    ap (λ cs. is_resumed_by sensitive cs p) (changes-more entries i d lt)
    ∙ resumed-by-append sensitive (changes_of (take i entries)) (changes_of (get_or entries i d ∷ [])) p in
    ew ∙ (ap (λ b. here || b) en ∙ (or-turn here before was ∙ ap (λ b. b || was) (sym more)))

-- ---- processes sensitive to nets

-- one more net of a sensitivity
pub sensitivity-more : (sensitivity : List ℕ) (i n net : ℕ) (is_it was now new : Bool) → i < length sensitivity → net ≡ get_or sensitivity i 0
    → now ≡ (was || (is_among (take i sensitivity) n && is_it)) → new ≡ (now || ((net == n) && is_it)) → new ≡
    (was || (is_among (take (i + 1) sensitivity) n && is_it))
sensitivity-more sensitivity i n net is_it was now new lt is e f =
    let front = is_among (take i sensitivity) n in
    f ∙ (ap (λ b. b || ((net == n) && is_it)) e ∙ (or-assoc was (front && is_it) ((net == n) && is_it)
    ∙ ap (λ b. was || b) (and-or front (net == n) is_it ∙ ap (λ b. b && is_it) (ap (λ m. front || (m == n)) is ∙ sym (among-more sensitivity i n lt)))))

-- those sensitive to the net of a single change
pub resumed-by-one : (sensitive : List (List ℕ)) (changes : List (ℕ × Logic)) (p net : ℕ) (value : Logic) → changes ≡ (net, value) ∷ []
    → is_resumed_by sensitive changes p ≡ is_among (get_or sensitive net []) p
resumed-by-one sensitive changes p net value e = ap (λ cs. is_resumed_by sensitive cs p) e ∙ or_false (is_among (get_or sensitive net []) p)

-- the changes of a single entry
pub changes-only : (entries : List Entry) (d : Entry) → length entries ≡ 1 → changes_of entries ≡ changes_of (get_or entries 0 d ∷ [])
changes-only [] d one = absurd (omega (arith, one))
changes-only (e ∷ f ∷ entries) d one = absurd (omega (arith, one))
changes-only (e ∷ []) d one = refl

-- a number is among others by either definition
pub among-both : (numbers : List ℕ) (n : ℕ) → contained.is_among numbers n ≡ is_among numbers n
among-both [] n = refl
among-both (m ∷ ms) n = ap (λ b. (m == n) || b) (among-both ms n)
