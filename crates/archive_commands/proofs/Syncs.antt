-- What a sync did, from what its parts did.
use Rattle.std.proofs.Common.{refl, ◌≡◌, ◌∙◌, ℕ, Bool, not, ◌&&◌, List, Option, Result, Ok, Err, IfOk, IfErr, ap, subst}
use Rattle.tws_file.specs.declared.«ruleset».Ruleset.{Ruleset}
use Rattle.tws_file.specs.declared.«ruleset».Ruleset.TheVariants.{Lynx, Ms}
use Rattle.tftp_packet.specs.declared.endpoint.Endpoint.{Endpoint}
use Rattle.archive_wire.specs.Wire.{Entry}
use Rattle.archive_sync.specs.declared.sync_fault.SyncFault.{SyncFault}
use Rattle.archive_sync.specs.News.{Told}
use Rattle.archive_sync.specs.Fetching.{FetchesNews, SyncFails}
use Rattle.archive_commands.specs.declared.limits.TheConstants.{ROUNDS}
use Rattle.archive_commands.specs.Syncing.{Fetched, Goes, SyncEnds, are_apart, counts_in, fetch_status, first_of, is_unreadable}

module _ (from to : Endpoint) where
  fetched_by : (rules : Ruleset) (r : Result Told SyncFault) (old before after : Option (List Entry)) → before ≡ old
      → IfOk r (λ told. FetchesNews from to (record { rules = rules; rounds = ROUNDS }) told before after)
      → IfErr r (λ fault. SyncFails from to (record { rules = rules; rounds = ROUNDS }) fault before after) → Fetched from to rules r old after
  fetched_by rules (Ok told) old before after is fetched fails = subst (λ (b : Option (List Entry)). Fetched from to rules (Ok told) b after) is fetched
  fetched_by rules (Err fault) old before after is fetched fails = subst (λ (b : Option (List Entry)). Fetched from to rules (Err fault) b after) is fails

  -- both rulesets were fetched, with these statuses, and then the sync went on
  pub sync_ended : (both fresh : Bool) (lynx ms : Result Told SyncFault) (first second early status : ℕ) (unreadable : Bool)
      (old before mid fetched after : Option (List Entry)) (said now : Option (List ℕ)) → before ≡ old
      → IfOk lynx (λ told. FetchesNews from to (record { rules = Lynx; rounds = ROUNDS }) told before mid)
      → IfErr lynx (λ fault. SyncFails from to (record { rules = Lynx; rounds = ROUNDS }) fault before mid)
      → IfOk ms (λ told. FetchesNews from to (record { rules = Ms; rounds = ROUNDS }) told mid fetched)
      → IfErr ms (λ fault. SyncFails from to (record { rules = Ms; rounds = ROUNDS }) fault mid fetched)
      → first ≡ fetch_status lynx → second ≡ fetch_status ms → unreadable ≡ is_unreadable first second → early ≡ first_of first second
      → Goes unreadable (not fresh && are_apart (counts_in lynx) (counts_in ms)) from to both lynx ms early status fetched after said now
      → SyncEnds from to both fresh status old after said now
  sync_ended both fresh lynx ms first second early status unreadable old before mid fetched after said now is lynx-ok lynx-err ms-ok ms-err first-is second-is unreadable-is early-is goes =
      let apart : Bool = not fresh && are_apart (counts_in lynx) (counts_in ms) in
      let u : unreadable ≡ is_unreadable (fetch_status lynx) (fetch_status ms) =
      unreadable-is ∙ ap (λ (n : ℕ). is_unreadable n second) first-is ∙ ap (λ (n : ℕ). is_unreadable (fetch_status lynx) n) second-is in
      let e : early ≡ first_of (fetch_status lynx) (fetch_status ms) =
      early-is ∙ ap (λ (n : ℕ). first_of n second) first-is ∙ ap (λ (n : ℕ). first_of (fetch_status lynx) n) second-is in
      record {
        lynx = lynx;
        ms = ms;
        mid = mid;
        fetched = fetched;
        first = fetched_by Lynx lynx old before mid is lynx-ok lynx-err;
        second = fetched_by Ms ms mid mid fetched refl ms-ok ms-err;
        goes = subst (λ (n : ℕ). Goes (is_unreadable (fetch_status lynx) (fetch_status ms)) apart from to both lynx ms n status fetched after said now) e
            (subst (λ (b : Bool). Goes b apart from to both lynx ms early status fetched after said now) u goes);
      }
