-- Each step of the table keeps the live ports, opens one or closes one; what is done to the timers does the same to
-- their ports.
use Rattle.std.specs.Prelude.{◌≡◌, ℕ, ◌+◌, ◌<◌, max, Bool, true, false, cond, ◌==◌, nat_lt, List, [], ◌∷◌, length, map, None, Some}
use Rattle.std.proofs.Common.{refl, sym, ap, ◌∙◌, inl, inr, arith, eq-eqb, suc}
use Rattle.std.proofs.lemmas.Bool.{cases_Bool, cases_lt, ne_eqb, ltb-true, lt-ltb}
use Rattle.std.specs.Cmp.{nat_cmp_is}
use Rattle.std.specs.declared.cmp.Ordering.{Ordering}
use Rattle.std.specs.declared.cmp.Ordering.TheVariants.{Less, Equal, Greater}
use Rattle.std.specs.Ordering.{nat_cmp, is_eq, match_ordering}
use Rattle.std.specs.Map.{lookup, remove_entry, set_value}
use Rattle.std.specs.BTreeMap.{insert_entry}
use Rattle.archive_table.specs.Table.{at_port}
use Rattle.archive_server.specs.declared.timer.Timer.{Timer}
use Rattle.archive_server.specs.Timers.{ports_of, with_timer, without_timer, with_due, renewed, lower}

-- the ports of a map
abbrev pub keys : {X : Type 0} → List (ℕ × X) → List ℕ
keys es = map (λ e. e.0) es

-- ports with one more, in order
abbrev pub insert_port : (port : ℕ) → List ℕ → List ℕ
insert_port p [] = p ∷ []
insert_port p (q ∷ qs) = cond (nat_lt q p) (q ∷ insert_port p qs) (p ∷ q ∷ qs)

-- ports without one of them
abbrev pub remove_port : (port : ℕ) → List ℕ → List ℕ
remove_port p [] = []
remove_port p (q ∷ qs) = cond (q == p) qs (q ∷ remove_port p qs)

-- ---- the timers

map_cond : {A B : Type 0} (f : A → B) (b : Bool) (x y : A) → f (cond b x y) ≡ cond b (f x) (f y)
map_cond f true x y = refl
map_cond f false x y = refl

same_cond : {A : Type 0} (b : Bool) (x : A) → cond b x x ≡ x
same_cond true x = refl
same_cond false x = refl

abbrev begun_anew : (due block : ℕ) → Timer → Timer
begun_anew due block t = record { port = t.port; due = due; first_due = t.first_due; reached = max t.reached block }

-- a new timer adds its port
pub ports_with : (t : Timer) (ts : List Timer) → ports_of (with_timer t ts) ≡ insert_port t.port (ports_of ts)
ports_with t [] = refl
ports_with t (u ∷ us) =
    map_cond ports_of (nat_lt u.port t.port) (u ∷ with_timer t us) (t ∷ u ∷ us) ∙ ap (λ l. cond (nat_lt u.port t.port) (u.port ∷ l) (t.port ∷ u.port ∷ ports_of us)) (ports_with t us)

-- removing a timer removes its port
pub ports_without : (p : ℕ) (ts : List Timer) → ports_of (without_timer p ts) ≡ remove_port p (ports_of ts)
ports_without p [] = refl
ports_without p (u ∷ us) =
    map_cond ports_of (u.port == p) us (u ∷ without_timer p us) ∙ ap (λ l. cond (u.port == p) (ports_of us) (u.port ∷ l)) (ports_without p us)

port_renewed : (p d b : ℕ) (t : Timer) → (renewed p d b t).port ≡ t.port
port_renewed p d b t = elim (cases_Bool (t.port == p)) [
  | inl y ↦ ap (λ (c : Bool). (cond c (begun_anew d b t) t).port) y
  | inr n ↦ ap (λ (c : Bool). (cond c (begun_anew d b t) t).port) n
]

-- restarting a timer leaves the ports
pub ports_due : (p d b : ℕ) (ts : List Timer) → ports_of (with_due p d b ts) ≡ ports_of ts
ports_due p d b [] = refl
ports_due p d b (t ∷ ts) = ap (λ q. q ∷ ports_of (with_due p d b ts)) (port_renewed p d b t) ∙ ap (λ (l : List ℕ). t.port ∷ l) (ports_due p d b ts)

-- counting down leaves the ports
pub ports_lower : (ts : List Timer) → ports_of (lower ts) ≡ ports_of ts
ports_lower [] = refl
ports_lower (t ∷ ts) = ap (λ (l : List ℕ). t.port ∷ l) (ports_lower ts)

pub length_with : (t : Timer) (ts : List Timer) → length (with_timer t ts) ≡ length ts + 1
length_with t [] = refl
length_with t (u ∷ us) = elim (cases_Bool (nat_lt u.port t.port)) [
  | inl y ↦ ap length (ap (λ b. cond b (u ∷ with_timer t us) (t ∷ u ∷ us)) y) ∙ ap suc (length_with t us) ∙ omega arith
  | inr n ↦ ap length (ap (λ b. cond b (u ∷ with_timer t us) (t ∷ u ∷ us)) n) ∙ omega arith
]

-- ---- the finite map of transfers

-- a port passes the test of one if it is that port
pub at_is : (p q : ℕ) → at_port p q ≡ (q == p)
at_is p q = elim (cases_lt p q) [
  | inl less ↦ ap is_eq (sym (nat_cmp_is p q Less less)) ∙ sym (ne_eqb q p (λ e. omega arith))
  | inr more ↦ elim (cases_lt q p) [
    | inl greater ↦ ap is_eq (sym (nat_cmp_is p q Greater greater)) ∙ sym (ne_eqb q p (λ e. omega arith))
    | inr less ↦ ap is_eq (sym (nat_cmp_is p q Equal (omega arith))) ∙ sym (eq-eqb q p (omega arith))
  ]
]

not_below : (p q : ℕ) → p < q → nat_lt q p ≡ false
not_below p q less = elim (cases_Bool (nat_lt q p)) [
  | inl y ↦ let below : q < p = ltb-true q p y in absurd (omega arith)
  | inr n ↦ n
]

-- an entry put before, in place of or after the first, by how their ports compare
abbrev ordered : {X : Type 0} → Ordering → (p : ℕ) (v : X) (e : ℕ × X) (es : List (ℕ × X)) → List (ℕ × X)
ordered r p v e es = match_ordering r ((p, v) ∷ e ∷ es) ((e.0, v) ∷ es) (e ∷ insert_entry nat_cmp es p v)

-- writing the value at a port leaves the ports
pub keys_set : {X : Type 0} (p : ℕ) (es : List (ℕ × X)) (v : X) → keys (set_value (at_port p) es v) ≡ keys es
keys_set p [] v = refl
keys_set p (e ∷ es) v =
    map_cond keys (at_port p e.0) ((e.0, v) ∷ es) (e ∷ set_value (at_port p) es v) ∙ ap (λ l. cond (at_port p e.0) (e.0 ∷ keys es) (e.0 ∷ l)) (keys_set p es v) ∙ same_cond (at_port p e.0) _

-- removing an entry removes its port
pub keys_remove : {X : Type 0} (p : ℕ) (es : List (ℕ × X)) → keys (remove_entry (at_port p) es) ≡ remove_port p (keys es)
keys_remove p [] = refl
keys_remove p (e ∷ es) =
    map_cond keys (at_port p e.0) es (e ∷ remove_entry (at_port p) es) ∙ ap (λ l. cond (at_port p e.0) (keys es) (e.0 ∷ l))
    (keys_remove p es) ∙ ap (λ b. cond b (keys es) (e.0 ∷ remove_port p (keys es))) (at_is p e.0)

-- inserting an entry at a new port adds that port
pub keys_insert : {X : Type 0} (p : ℕ) (es : List (ℕ × X)) (v : X) → lookup (at_port p) es ≡ None → keys (insert_entry nat_cmp es p v) ≡ insert_port p (keys es)
keys_insert p [] v free = refl
keys_insert {X} p (e ∷ es) v free = elim (cases_lt p e.0) [
  | inl less ↦
      ap (λ r. keys (ordered r p v e es)) (sym (nat_cmp_is p e.0 Less less)) ∙ sym (ap (λ b. cond b (e.0 ∷ insert_port p (keys es)) (p ∷ e.0 ∷ keys es)) (not_below p e.0 less))
  | inr more ↦ elim (cases_lt e.0 p) [
    | inl greater ↦
        let apart : at_port p e.0 ≡ false = at_is p e.0 ∙ ne_eqb e.0 p (λ x. omega arith) in
        let rest : lookup (at_port p) es ≡ None = sym (ap (λ b. cond b (Some e.1) (lookup (at_port p) es)) apart) ∙ free in
        ap (λ r. keys (ordered r p v e es)) (sym (nat_cmp_is p e.0 Greater greater)) ∙
        ap (λ (l : List ℕ). e.0 ∷ l) (keys_insert p es v rest) ∙
        sym (ap (λ b. cond b (e.0 ∷ insert_port p (keys es)) (p ∷ e.0 ∷ keys es)) (lt-ltb e.0 p greater))
    | inr less ↦
        let same : at_port p e.0 ≡ true = at_is p e.0 ∙ eq-eqb e.0 p (omega arith) in
        let held : Some e.1 ≡ None = sym (ap (λ b. cond b (Some e.1) (lookup (at_port p) es)) same) ∙ free in
        cc
  ]
]
