-- What follows from the orders of keys, ranks and entries: they are total, and only what is equal ties.
use Rattle.std.proofs.Common.{◌≡◌, ◌≢◌, ℕ, true, false, List, refl, ap, sym, subst, ◌∙◌}
use Rattle.std.specs.declared.cmp.Ordering.{Ordering}
use Rattle.std.specs.declared.cmp.Ordering.TheVariants.{Less, Equal, Greater}
use Rattle.std.specs.Ordering.{nat_cmp, is_lt, is_gt, ordering_then, ordering_reverse}
use Rattle.std.specs.Cmp.{IsTotalOrder, then_total, on_total, nat_cmp_total, upto, tied_itself}
use Rattle.std.specs.Cmp.Lexicographic.{slice_cmp, nat_list_cmp_total}
use Rattle.std.specs.FinMap.{nat_cmp-IsAntisymmetric, slice_cmp-IsAntisymmetric}
use Rattle.tws_file.specs.declared.key.Key.{Key}
use Rattle.tws_best.specs.Rank.{Ranking, rank_of, rank_cmp, IsBelow}
use Rattle.tws_best.specs.RankOrder.{rank_total}
use Rattle.tws_best.specs.Best.{key_cmp}

-- ---- keys

-- the order of keys is total
pub key_total : IsTotalOrder key_cmp
key_total = then_total (on_total (λ (k : Key). k.number) nat_cmp_total) (on_total (λ (k : Key). k.password) nat_list_cmp_total)

-- two comparisons in a row find no difference only if neither does
then_Equal : (r s : Ordering) → ordering_then r s ≡ Equal → (r ≡ Equal) × (s ≡ Equal)
then_Equal Less s e = absurd cc
then_Equal Equal s e = (refl, e)
then_Equal Greater s e = absurd cc

-- only equal keys tie
pub key_tie : (j k : Key) → key_cmp j k ≡ Equal → j ≡ k
key_tie j k e =
    let parts = then_Equal (nat_cmp j.number k.number) (slice_cmp nat_cmp j.password k.password) e in
    let number : j.number ≡ k.number = nat_cmp-IsAntisymmetric j.number k.number parts.0 in
    let password : j.password ≡ k.password = slice_cmp-IsAntisymmetric nat_cmp-IsAntisymmetric j.password k.password parts.1 in
    let make : ℕ → List ℕ → Key = λ n p. record { number = n; password = p } in
    let whole : make j.number j.password ≡ make k.number k.password = cc in
    whole

pub key_itself : (k : Key) → key_cmp k k ≡ Equal
key_itself k = tied_itself key_total k

-- a key that is below another one is not that key
pub key_apart : (j k : Key) → key_cmp j k ≡ Less → j ≢ k
key_apart j k less e = let self = key_itself k in let also : key_cmp k k ≡ Less = subst (λ (i : Key). key_cmp i k ≡ Less) e less in absurd cc

-- ---- ranks

-- only equal bodies have equal ranks
pub rank_tie : (a b : List ℕ) → rank_cmp (rank_of a) (rank_of b) ≡ Equal → a ≡ b
rank_tie a b e =
    let outer = then_Equal (nat_cmp (rank_of a).ticks (rank_of b).ticks) _ e in
    let inner = then_Equal (nat_cmp (rank_of a).size (rank_of b).size) _ outer.1 in
    slice_cmp-IsAntisymmetric nat_cmp-IsAntisymmetric a b inner.1

pub rank_itself : (r : Ranking) → IsBelow r r → ⊥
rank_itself r less = let self = tied_itself rank_total r in absurd cc

pub not_less : (o : Ordering) → (o ≡ Less → ⊥) → is_lt o ≡ false
not_less Less not = absurd (not refl)
not_less Equal not = refl
not_less Greater not = refl

pub less_not : (o : Ordering) → is_lt o ≡ false → o ≡ Less → ⊥
less_not o not less = let is : is_lt o ≡ true = ap is_lt less in absurd cc

pub reverse_gt : (o : Ordering) → is_lt o ≡ false → is_gt (ordering_reverse o) ≡ false
reverse_gt Less e = absurd cc
reverse_gt Equal e = refl
reverse_gt Greater e = refl

pub gt_reverse : (o : Ordering) → is_gt (ordering_reverse o) ≡ false → is_lt o ≡ false
gt_reverse Less e = absurd cc
gt_reverse Equal e = refl
gt_reverse Greater e = refl

-- if one rank is not better, the other is not worse
not_above : (x y : Ranking) → (IsBelow y x → ⊥) → is_gt (rank_cmp x y) ≡ false
not_above x y not = ap is_gt (rank_total.antisymm x y) ∙ reverse_gt (rank_cmp y x) (not_less (rank_cmp y x) not)

-- being no better is transitive
pub no_better : (q r s : Ranking) → (IsBelow r q → ⊥) → (IsBelow s r → ⊥) → IsBelow s q → ⊥
no_better q r s first second =
    let all = upto rank_total q r s (not_above q r first) (not_above r s second) in
    less_not (rank_cmp s q) (gt_reverse (rank_cmp s q) (sym (ap is_gt (rank_total.antisymm q s)) ∙ all))
