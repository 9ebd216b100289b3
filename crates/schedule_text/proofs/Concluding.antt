-- What a replay over a keeper that has nothing says of the events.
use Rattle.std.proofs.Common.{◌≡◌, ℕ, List, [], subst, Option, Some, Result, Err}
use Rattle.archive_table.specs.Keeper.{Keeping}
use Rattle.archive_model.specs.World.{Event}
use Rattle.archive_world.specs.Outcomes.{Outcome}
use Rattle.archive_world.specs.declared.world_fault.WorldFault.{WorldFault}
use Rattle.archive_world.specs.declared.world_fault.WorldFault.TheVariants.{BadEvent, PortReused, NotKept, NotLoaded, Memory}
use Rattle.archive_world.specs.Replays.{IsReady, HasRun, IsBadAt, IsReusedAt, IsNotKeptAt, IsNotLoadedAt, HasStopped, FailsBy, nothing}

module _ (events : List Event) (reported now : Option (List Keeping)) (is : reported ≡ Some []) where
  ready : IsReady reported events
  ready = λ e among starts. is

  pub run_of : (outcome : Outcome) → (IsReady reported events → HasRun events reported now outcome) → HasRun events (Some []) now outcome
  run_of outcome ran = subst (λ (r : Option (List Keeping)). HasRun events r now outcome) is (ran ready)

  pub fault_of : {T : Type 0} (fault : WorldFault) (result : Result T WorldFault) → result ≡ Err fault
      → ((i : ℕ) → result ≡ Err (BadEvent i) → IsReady reported events → IsBadAt nothing events reported now i)
      → ((i : ℕ) → result ≡ Err (PortReused i) → IsReady reported events → IsReusedAt nothing events reported now i)
      → ((i : ℕ) → result ≡ Err (NotKept i) → IsReady reported events → IsNotKeptAt nothing events reported now i)
      → ((i : ℕ) → result ≡ Err (NotLoaded i) → IsReady reported events → IsNotLoadedAt nothing events reported now i)
      → (result ≡ Err Memory → IsReady reported events → HasStopped nothing events reported now) → FailsBy nothing fault events (Some []) now
  fault_of (BadEvent i) result same bad reused not_kept not_loaded memory =
      subst (λ (r : Option (List Keeping)). IsBadAt nothing events r now i) is (bad i same ready)
  fault_of (PortReused i) result same bad reused not_kept not_loaded memory =
      subst (λ (r : Option (List Keeping)). IsReusedAt nothing events r now i) is (reused i same ready)
  fault_of (NotKept i) result same bad reused not_kept not_loaded memory =
      subst (λ (r : Option (List Keeping)). IsNotKeptAt nothing events r now i) is (not_kept i same ready)
  fault_of (NotLoaded i) result same bad reused not_kept not_loaded memory =
      subst (λ (r : Option (List Keeping)). IsNotLoadedAt nothing events r now i) is (not_loaded i same ready)
  fault_of Memory result same bad reused not_kept not_loaded memory =
      subst (λ (r : Option (List Keeping)). HasStopped nothing events r now) is (memory same ready)
