-- Ports whose transfer was written and is then removed, or was not changed.
use Rattle.std.specs.Prelude.{◌≡◌, ℕ, Bool, true, false, cond, List, [], ◌∷◌, Option, None, Some, is_some}
use Rattle.std.proofs.Common.{refl, sym, ap, ◌∙◌, inl, inr}
use Rattle.std.specs.Map.{lookup, remove_entry, set_value}
use Rattle.tftp_packet.specs.declared.endpoint.Endpoint.{Endpoint}
use Rattle.tftp_packet.specs.declared.refusal.Refusal.TheVariants.{OutOfMemory, NotKept}
use Rattle.tftp_ends.specs.Ends.{Receiver}
use Rattle.archive_table.specs.Table.{Grant, all, no_memory, unkept, Maps, Table, Transfer, TableAnswer, receiving, at_port, with_live, file_come, sends_from, refusal_dgram}
use Rattle.archive_table.specs.Steps.{file_done}
use Rattle.std.proofs.lemmas.Bool.{cases_Bool, true≢false}

pub if_true : {A : Type 0} {b : Bool} (x y : A) → b ≡ true → cond b x y ≡ x
if_true x y e = ap (λ c. cond c x y) e

pub if_false : {A : Type 0} {b : Bool} (x y : A) → b ≡ false → cond b x y ≡ y
if_false x y e = ap (λ c. cond c x y) e

abbrev value_or : {X : Type 0} → X → Option X → X
value_or v None = v
value_or v (Some x) = x

-- a port whose value was written is removed: the ports are as if nothing had been written
pub remove_set : {X : Type 0} (test : ℕ → Bool) (es : List (ℕ × X)) (w : X) → remove_entry test (set_value test es w) ≡ remove_entry test es
remove_set test [] w = refl
remove_set {X} test (e ∷ es) w = elim (cases_Bool (test e.0)) [
  | inl y ↦ ap (remove_entry test) (if_true ((e.0, w) ∷ es) _ y) ∙ if_true _ _ y ∙ sym (if_true _ _ y)
  | inr n ↦ ap (remove_entry test) (if_false ((e.0, w) ∷ es) _ n) ∙ if_false _ _ n ∙ ap (λ (l : List (ℕ × X)). e ∷ l) (remove_set test es w) ∙ sym (if_false _ _ n)
]

-- writing the value that a port has changes nothing
pub set_same : {X : Type 0} (test : ℕ → Bool) (es : List (ℕ × X)) (v : X) → lookup test es ≡ Some v → set_value test es v ≡ es
set_same test [] v h = refl
set_same {X} test (e ∷ es) v h = elim (cases_Bool (test e.0)) [
  | inl y ↦ if_true _ _ y ∙ ap (λ (x : X). (e.0, x) ∷ es) (sym (ap (value_or v) (sym (if_true _ _ y) ∙ h)))
  | inr n ↦ if_false _ _ n ∙ ap (λ (l : List (ℕ × X)). e ∷ l) (set_same test es v (sym (if_false _ _ n) ∙ h))
]

-- the step that closes a port among these, with a datagram
abbrev closed_with : List (ℕ × Transfer) → (port : ℕ) → Endpoint → Option (List ℕ) → Table → TableAnswer
closed_with live port peer out s =
    record {
      server = with_live live s;
      step = record { out = sends_from port peer out; opened = false; taken = None; closed = true };
    }

-- a whole file at a port whose receiver was written
pub done_come : (g : Grant) (maps : Maps) (port : ℕ) (peer : Endpoint) (file : List ℕ) (r : Receiver) (out : Option (List ℕ))
    (s : Table) → file_done g maps port peer file out
    (with_live (set_value (at_port port) s.live
    (record { peer = peer; end = receiving r })) s) ≡ file_come g maps port peer file r out s
done_come all maps port peer file r out s = refl
done_come no_memory maps port peer file r out s =
    ap (λ (l : List (ℕ × Transfer)). closed_with l port peer (Some (refusal_dgram OutOfMemory)) s)
    (remove_set (at_port port) s.live (record { peer = peer; end = receiving r }))
done_come unkept maps port peer file r out s =
    ap (λ (l : List (ℕ × Transfer)). closed_with l port peer (Some (refusal_dgram NotKept)) s)
    (remove_set (at_port port) s.live (record { peer = peer; end = receiving r }))

pub some_none : {X Y : Type 0} {x : X} → Some x ≡ None → Y
some_none e = absurd (true≢false (ap is_some e))

-- if nothing is found, nothing is removed
pub remove_none : {X : Type 0} (test : ℕ → Bool) (es : List (ℕ × X)) → lookup test es ≡ None → remove_entry test es ≡ es
remove_none test [] h = refl
remove_none {X} test (e ∷ es) h = elim (cases_Bool (test e.0)) [
  | inl y ↦ some_none (sym (if_true (Some e.1) (lookup test es) y) ∙ h)
  | inr n ↦ if_false es (e ∷ remove_entry test es) n ∙ ap (λ (l : List (ℕ × X)). e ∷ l) (remove_none test es (sym (if_false (Some e.1) (lookup test es) n) ∙ h))
]
