-- That two keys are equal, as `==` of keys tests it and as their order does.
use Rattle.std.proofs.Common.{◌≡◌, Bool, true, ◌&&◌, nat_eq, refl, ap, ◌∙◌}
use Rattle.std.specs.declared.cmp.Ordering.{Ordering}
use Rattle.std.specs.declared.cmp.Ordering.TheVariants.{Less, Equal, Greater}
use Rattle.std.specs.Ordering.{nat_cmp, is_eq, ordering_then}
use Rattle.std.specs.Cmp.{unsigned_ties}
use Rattle.std.specs.Cmp.Lexicographic.{slice_cmp, texts_ties}
use lib.Pointwise.{pointwise}
use Rattle.tws_file.specs.declared.key.Key.{Key}
use Rattle.tws_best.specs.Best.{key_cmp}
use Rattle.tws_best.proofs.Orders.{key_tie}

-- the test of `==`
abbrev pub same_key : Key → Key → Bool
same_key j k = nat_eq j.number k.number && pointwise nat_eq j.password k.password

both_equal : (o p : Ordering) → (is_eq o && is_eq p) ≡ is_eq (ordering_then o p)
both_equal Less p = refl
both_equal Equal p = refl
both_equal Greater p = refl

-- it is true exactly where the order finds no difference
pub same_key_ties : (j k : Key) → same_key j k ≡ is_eq (key_cmp j k)
same_key_ties j k =
    ap (λ b. b && pointwise nat_eq j.password k.password) (unsigned_ties j.number k.number)
    ∙ ap (λ b. is_eq (nat_cmp j.number k.number) && b) (texts_ties j.password k.password)
    ∙ both_equal (nat_cmp j.number k.number) (slice_cmp nat_cmp j.password k.password)

equal_from : (o : Ordering) → is_eq o ≡ true → o ≡ Equal
equal_from Less is = absurd cc
equal_from Equal is = refl
equal_from Greater is = absurd cc

-- only equal keys pass it
pub equal_keys : (j k : Key) → is_eq (key_cmp j k) ≡ true → j ≡ k
equal_keys j k is = key_tie j k (equal_from (key_cmp j k) is)
