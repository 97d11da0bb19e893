-- Which processes are sensitive to each net (IEEE 1076-2008, 11.3, 14.7.5.3).
-- Implementation only: what `simulate` promises does not rest on this file.
use Rattle.std.specs.Prelude.{ℕ, ◌≡◌, ◌<◌, ◌&&◌, ◌||◌, List, [], ◌∷◌, Bool, false, length, slice_index_or}
use Rattle.std.specs.List.{list_any}
use Rattle.sim_logic.specs.declared.logic.Logic.{Logic}
use Rattle.sim_flat_design.specs.Processes.{Process}
use Rattle.sim_standard.specs.declared.net_view.NetView.{NetView}
use Rattle.sim_standard.specs.State.{net_at}
use Rattle.sim_standard.specs.Processes.{process_at}
use Rattle.sim_standard.specs.Orders.{is_among}

-- whether one of these nets has an event
abbrev pub has_event_in : List NetView → List ℕ → Bool
has_event_in nets ns = list_any (λ (n : ℕ). (net_at nets n).event) ns

-- The processes listed for each net, by its number, are those sensitive to it.
abbrev pub AreSensitive : List Process → List (List ℕ) → Type 0
AreSensitive processes sensitive =
    (net process : ℕ) → net < length sensitive → is_among (slice_index_or sensitive net []) process ≡ is_among (process_at processes process).sensitivity net

-- whether a process is sensitive to a net with an event
abbrev pub is_sensitive : List NetView → List (List ℕ) → ℕ → Bool
is_sensitive [] sensitive process = false
is_sensitive (net ∷ nets) [] process = false
is_sensitive (net ∷ nets) (processes ∷ sensitive) process = (net.event && is_among processes process) || is_sensitive nets sensitive process

-- whether a process is sensitive to a net of these changes
abbrev pub is_resumed_by : List (List ℕ) → List (ℕ × Logic) → ℕ → Bool
is_resumed_by sensitive [] process = false
is_resumed_by sensitive (change ∷ changes) process = is_among (slice_index_or sensitive change.0 []) process || is_resumed_by sensitive changes process
