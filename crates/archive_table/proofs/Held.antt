-- Keys and slots after each call on the ports.
use Rattle.std.specs.Prelude.{◌≡◌, ℕ, ◌+◌, Bool, List, Option, None, Some, IsSome}
use Rattle.std.proofs.Common.{refl, sym, ap, ◌∙◌, subst}
use Rattle.std.specs.Ordering.{nat_cmp}
use Rattle.std.specs.Map.{lookup, remove_entry, set_value}
use Rattle.std.specs.BTreeMap.{is_at, insert_entry}
use Rattle.std.proofs.lemmas.Map.Views.{All-values-insert_entry, All-map-remove_entry}
use native.Mathlib.Omega.{arith}
use Rattle.slab.specs.Slab.{Slab, get, slab_len, Updates, with_value}
use Rattle.slab.proofs.SlabLemmas.{Updates-with_value}
use Rattle.archive_table.specs.Ports.{found_at, AreHeld}
use Rattle.archive_table.proofs.Found.{some_is_none, then_at, at_found, lookup_found, found_insert, found_set, found_remove, apart_insert, apart_remove, free_key, held_filled, others_left, length_inserted, length_removed}

-- keys, each with its slot
module _ {T : Type 0} (keys : List (ℕ × ℕ)) (old : Slab T) (h : AreHeld keys old) where
  -- a port with a key has a slot
  pub placed : (test : ℕ → Bool) (key : ℕ) → lookup test keys ≡ Some key → IsSome (get old key)
  placed test key is = at_found (λ k. IsSome (get old k)) test keys key h.held is

  -- and that slot has the value at the port
  pub placed_at : (test : ℕ → Bool) (key : ℕ) → lookup test keys ≡ Some key → lookup test (found_at (get old) keys) ≡ get old key
  placed_at test key is = lookup_found (get old) test keys h.held ∙ ap (then_at (get old)) is

  -- a port without a value has no key
  pub free_port : (test : ℕ → Bool) → lookup test (found_at (get old) keys) ≡ None → lookup test keys ≡ None
  free_port test none = by (lookup test keys) refl
    where
      by : (o : Option ℕ) → lookup test keys ≡ o → lookup test keys ≡ None
      by None is = is
      by (Some k) is = absurd (some_is_none (get old k) (placed test k is) (sym (placed_at test k is) ∙ none))

  -- room reserved for a slot changes nothing
  pub held_room : (capacity : ℕ) → AreHeld keys (record old { capacity = capacity })
  held_room capacity = record { held = h.held; apart = h.apart; all = h.all }

  -- a call on the slab, which fills or frees the slot of this key
  module _ (new : Slab T) (key : ℕ) where
    -- a new port with a new slot
    module _ (port : ℕ) (x : T) (fresh : get old key ≡ None) (up : Updates old new key (Some x)) (free : lookup (is_at (nat_cmp port)) keys ≡ None) where
      -- the new port has this value
      pub found_inserted : found_at (get new) (insert_entry nat_cmp keys port key) ≡ insert_entry nat_cmp (found_at (get old) keys) port x
      found_inserted = found_insert (get old) (get new) port key x keys up.others up.changed (free_key (get old) key keys fresh h.held) h.held free

      -- with a new port and its slot, each key has its slot
      pub held_inserted : slab_len new ≡ slab_len old + 1 → AreHeld (insert_entry nat_cmp keys port key) new
      held_inserted more =
          record {
            held = All-values-insert_entry nat_cmp port key (λ k. IsSome (get new k)) keys
                (held_filled (get old) (get new) key keys up.others (free_key (get old) key keys fresh h.held) h.held)
                (subst (λ (o : Option T). IsSome o) (sym up.changed) refl);
            apart = apart_insert port key keys h.apart (free_key (get old) key keys fresh h.held) free;
            all = omega (arith, more, h.all, length_inserted port key keys free);
          }

    -- a port and its slot are removed
    module _ (test : ℕ → Bool) (is : lookup test keys ≡ Some key) (up : Updates old new key None) where
      -- the port is gone
      pub found_removed : found_at (get new) (remove_entry test keys) ≡ remove_entry test (found_at (get old) keys)
      found_removed = found_remove (get old) (get new) test key keys up.others h.apart h.held is

      -- without a port and its slot, each key that is left has its slot
      pub held_removed : slab_len new + 1 ≡ slab_len old → AreHeld (remove_entry test keys) new
      held_removed fewer =
          record {
            held = held_filled (get old) (get new) key (remove_entry test keys) up.others (others_left test key keys h.apart is)
                (All-map-remove_entry test (λ (e : ℕ × ℕ). e.1) (λ k. IsSome (get old k)) keys h.held);
            apart = apart_remove test keys h.apart;
            all = omega (arith, fewer, h.all, length_removed test key keys is);
          }

  -- the value at a port is written
  pub found_written : (test : ℕ → Bool) (key : ℕ) (x : T) → lookup test keys ≡ Some key → found_at (get (with_value old key x)) keys ≡ set_value test (found_at (get old) keys) x
  found_written test key x is =
      let up = Updates-with_value old key x (placed test key is) in
      found_set (get old) (get (with_value old key x)) test key x keys up.others up.changed h.apart h.held is
