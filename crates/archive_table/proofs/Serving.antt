-- The invariant of a server, as its transfers are added, written and removed.
use Rattle.std.specs.Prelude.{◌≡◌, ◌≢◌, ℕ, suc, ◌<◌, ◌≤◌, Bool, true, false, cond, List, [], ◌∷◌, length, None, Some}
use Rattle.std.proofs.Common.{sym, ap, ◌∙◌, inl, inr, subst}
use native.Mathlib.Omega.{arith}
use Rattle.std.specs.List.{All}
use Rattle.std.specs.declared.cmp.Ordering.{Ordering}
use Rattle.std.specs.declared.cmp.Ordering.TheVariants.{Less, Equal, Greater}
use Rattle.std.specs.Ordering.{match_ordering, is_eq, nat_cmp}
use Rattle.std.specs.Cmp.{nat_cmp_is}
use Rattle.std.specs.Map.{lookup, remove_entry, set_value, keys_of, values_of}
use Rattle.std.specs.BTreeMap.{insert_entry}
use Rattle.std.proofs.lemmas.Bool.{cases_Bool, ltb-true, ltb-false}
use Rattle.std.proofs.Math.Dec.{ltb}
use Rattle.std.proofs.lemmas.List.Elements.{All-cons, All-nil, All-weaker}
use Rattle.std.proofs.lemmas.Map.{length-set_value, keys-set_value}
use Rattle.std.proofs.lemmas.Map.Views.{All-values-insert_entry, All-keys-insert_entry, All-map-remove_entry, All-values-set_value}
use Rattle.tws_file.specs.declared.«ruleset».Ruleset.TheVariants.{Lynx, Ms}
use Rattle.archive_table.specs.declared.limits.TheConstants.{LIVE}
use Rattle.archive_table.specs.Table.{Table, Transfer, IsEnd, AreRising, IsTable, at_port, transfer_at, with_live, has_slot}
use Rattle.archive_table.proofs.Live.{if_true, if_false, some_none}

-- less, equal or greater
order_of : {P : Type 0} (a b : ℕ) → (a < b → P) → (a ≡ b → P) → (b < a → P) → P
order_of a b less same more = elim (cases_Bool (ltb a b)) [
  | inl y ↦ less (ltb-true a b y)
  | inr n ↦ elim (cases_Bool (ltb b a)) [
    | inl y ↦ more (ltb-true b a y)
    | inr m ↦ same (omega (arith, ltb-false a b n, ltb-false b a m))
  ]
]

-- a map from ports
module _ {T : Type 0} where
  -- with a new port the ports are in order
  rising_insert : (port : ℕ) (x : T) (es : List (ℕ × T)) → AreRising (keys_of es) → lookup (at_port port) es ≡ None → AreRising (keys_of (insert_entry nat_cmp es port x))
  rising_insert port x [] h free = (All-nil (λ m. port < m), tt)
  rising_insert port x (e ∷ es) h free = order_of port e.0
      (λ less. subst (λ r. AreRising (keys_of (match_ordering r ((port, x) ∷ e ∷ es) ((e.0, x) ∷ es) (e ∷ insert_entry nat_cmp es port x)))) (nat_cmp_is port e.0 Less less)
      (All-cons (λ m. port < m) e.0 (keys_of es) less (All-weaker (λ m. e.0 < m) (λ m. port < m) (λ m l. omega (arith, less, l)) (keys_of es) h.0), h))
      (λ same. some_none (ap (λ r. cond (is_eq r) (Some e.1) (lookup (at_port port) es)) (nat_cmp_is port e.0 Equal same) ∙ free))
      (λ more. subst (λ r. AreRising (keys_of (match_ordering r ((port, x) ∷ e ∷ es) ((e.0, x) ∷ es) (e ∷ insert_entry nat_cmp es port x)))) (nat_cmp_is port e.0 Greater more) (
        All-keys-insert_entry nat_cmp port x (λ m. e.0 < m) es h.0 more,
        rising_insert port x es h.1 (ap (λ r. cond (is_eq r) (Some e.1) (lookup (at_port port) es)) (nat_cmp_is port e.0 Greater more) ∙ free),
      ))

  -- and they are without some
  rising_remove : (test : ℕ → Bool) (es : List (ℕ × T)) → AreRising (keys_of es) → AreRising (keys_of (remove_entry test es))
  rising_remove test [] h = tt
  rising_remove test (e ∷ es) h = elim (cases_Bool (test e.0)) [
    | inl y ↦ subst (λ (l : List (ℕ × T)). AreRising (keys_of l)) (sym (if_true es (e ∷ remove_entry test es) y)) h.1
    | inr n ↦ subst (λ (l : List (ℕ × T)). AreRising (keys_of l)) (sym (if_false es (e ∷ remove_entry test es) n))
        (All-map-remove_entry test (λ (x : ℕ × T). x.0) (λ m. e.0 < m) es h.0, rising_remove test es h.1)
  ]

  length_insert : (port : ℕ) (x : T) (es : List (ℕ × T)) → length (insert_entry nat_cmp es port x) ≤ suc (length es)
  length_insert port x [] = omega arith
  length_insert port x (e ∷ es) = by (nat_cmp port e.0) (length_insert port x es)
    where
      by : (r : Ordering) → length (insert_entry nat_cmp es port x) ≤ suc (length es) →
          length (match_ordering r ((port, x) ∷ e ∷ es) ((e.0, x) ∷ es) (e ∷ insert_entry nat_cmp es port x)) ≤ suc
          (length (e ∷ es))
      by Less h = omega arith
      by Equal h = omega arith
      by Greater h = omega (arith, h)

  length_remove : (test : ℕ → Bool) (es : List (ℕ × T)) → length (remove_entry test es) ≤ length es
  length_remove test [] = omega arith
  length_remove test (e ∷ es) = by (test e.0) (length_remove test es)
    where
      by : (b : Bool) → length (remove_entry test es) ≤ length es → length (cond b es (e ∷ remove_entry test es)) ≤ length (e ∷ es)
      by true h = omega arith
      by false h = omega (arith, h)

-- writing a transfer whose end is within its bounds keeps the invariant
pub set_fits : (port : ℕ) (t : Transfer) (s : Table) → IsTable s → IsEnd t.end → IsTable (with_live (set_value (at_port port) s.live t) s)
set_fits port t s h end =
    record {
      lynx = h.lynx;
      ms = h.ms;
      few = subst (λ n. n ≤ LIVE) (sym (length-set_value (at_port port) s.live t)) h.few;
      ordered = subst AreRising (sym (keys-set_value (at_port port) s.live t)) h.ordered;
      apart = subst (λ ps. All (λ p. p ≢ s.request) ps) (sym (keys-set_value (at_port port) s.live t)) h.apart;
      ends = All-values-set_value (at_port port) (λ t. IsEnd t.end) s.live t h.ends end;
    }

-- removing a transfer keeps the invariant
pub remove_fits : (port : ℕ) (s : Table) → IsTable s → IsTable (with_live (remove_entry (at_port port) s.live) s)
remove_fits port s h =
    record {
      lynx = h.lynx;
      ms = h.ms;
      few = omega (arith, length_remove (at_port port) s.live, h.few);
      ordered = rising_remove (at_port port) s.live h.ordered;
      apart = All-map-remove_entry (at_port port) (λ (e : ℕ × Transfer). e.0) (λ p. p ≢ s.request) s.live h.apart;
      ends = All-map-remove_entry (at_port port) (λ (e : ℕ × Transfer). e.1) (λ t. IsEnd t.end) s.live h.ends;
    }

-- opening a transfer at a free port keeps the invariant, if there is a slot
pub insert_fits : (port : ℕ) (t : Transfer) (s : Table) → IsTable s → IsEnd t.end → port ≢ s.request → transfer_at port s ≡ None →
    has_slot s ≡ true → IsTable (with_live (insert_entry nat_cmp s.live port t) s)
insert_fits port t s h end other free slot =
    record {
      lynx = h.lynx;
      ms = h.ms;
      few = omega (arith, length_insert port t s.live, ltb-true (length s.live) LIVE slot);
      ordered = rising_insert port t s.live h.ordered free;
      apart = All-keys-insert_entry nat_cmp port t (λ p. p ≢ s.request) s.live h.apart other;
      ends = All-values-insert_entry nat_cmp port t (λ t. IsEnd t.end) s.live h.ends end;
    }

-- the same for ports that equal those
pub removed_fits : (port : ℕ) (live : List (ℕ × Transfer)) (s : Table) → IsTable s → live ≡ remove_entry (at_port port) s.live → IsTable (with_live live s)
removed_fits port live s h is = subst (λ l. IsTable (with_live l s)) (sym is) (remove_fits port s h)

-- opening a transfer keeps the invariant, for ports that equal those with it
pub inserted_fits : (port : ℕ) (live : List (ℕ × Transfer)) (t : Transfer) (s : Table) → IsTable s →
    live ≡ insert_entry nat_cmp s.live port t → IsEnd t.end → port ≢ s.request → transfer_at port s ≡ None → has_slot s ≡ true →
    IsTable (with_live live s)
inserted_fits port live t s h is end other free slot = subst (λ l. IsTable (with_live l s)) (sym is) (insert_fits port t s h end other free slot)

-- if no port is live
pub none_fits : (s : Table) → s.maps.lynx.«ruleset» ≡ Lynx → s.maps.ms.«ruleset» ≡ Ms → s.live ≡ [] → IsTable s
none_fits s lynx ms none =
    record {
      lynx = lynx;
      ms = ms;
      few = subst (λ (l : List (ℕ × Transfer)). length l ≤ LIVE) (sym none) (omega arith);
      ordered = subst (λ (l : List (ℕ × Transfer)). AreRising (keys_of l)) (sym none) tt;
      apart = subst (λ (l : List (ℕ × Transfer)). All (λ p. p ≢ s.request) (keys_of l)) (sym none) (All-nil (λ p. p ≢ s.request));
      ends = subst (λ (l : List (ℕ × Transfer)). All (λ t. IsEnd t.end) (values_of l)) (sym none) (All-nil (λ t. IsEnd t.end));
    }
