-- Inputs that are opened one after the other.
use Rattle.std.proofs.Common.{◌≡◌, ◌∙◌, ℕ, suc, ◌+◌, ◌<◌, Bool, List, [], ◌∷◌, ◌++◌, length, take, drop, map, min, get_or, Option, Result, Ok, Err, OnOk, ap, sym, subst, append_assoc}
use Rattle.std.proofs.Math.Seq.{split_at}
use Rattle.std.proofs.lemmas.List.{take_min, take_more, take-append-drop, map-append}
use Rattle.byte_output.proofs.Lists.{all_append}
use Rattle.command_line.specs.declared.source.Source.{Source}
use Rattle.show_commands.specs.Opening.{CanOpenAll, CanOpenSource, CannotOpenSource, IsFirstUnopened}

-- one more input: what is known of each of them, after others, is known of its source
pub known_next : {X : Type 0} (f : X → Option (List ℕ)) (known : Source → Option (List ℕ)) (front : List (Option (List ℕ))) (items after : List X) (x : X) (sources : List Source) (i : ℕ) (s : Source) →
    i < length sources → s ≡ get_or sources i s → after ≡ items ++ x ∷ [] → f x ≡ known s →
    map f items ≡ front ++ map known (take i sources) → map f after ≡ front ++ map known (take (i + 1) sources)
known_next {X} f known front items after x sources i s inside s-is after-is same so_far =
    let one : map known (take (i + 1) sources) ≡ map known (take i sources) ++ known s ∷ [] =
    ap (map known) (take_more sources i s inside ∙ ap (λ (y : Source). take i sources ++ y ∷ []) (sym s-is)) ∙ map-append known (take i sources) (s ∷ []) in
    ap (map f) after-is ∙ map-append f items (x ∷ []) ∙ ap (λ (k : Option (List ℕ)). map f items ++ k ∷ []) same
    ∙ ap (λ (ks : List (Option (List ℕ))). ks ++ known s ∷ []) so_far ∙ append_assoc front (map known (take i sources)) (known s ∷ []) ∙ ap (λ (ks : List (Option (List ℕ))). front ++ ks) (sym one)

module _ (opens_of : List ℕ → Option Bool) (sources : List Source) (i : ℕ) (s : Source) (inside : i < length sources) (s-is : s ≡ get_or sources i s) (so_far : CanOpenAll opens_of (take i sources)) where
  -- one more input that can be opened
  pub can_next : CanOpenSource opens_of s → CanOpenAll opens_of (take (i + 1) sources)
  can_next can =
      subst (CanOpenAll opens_of) (sym (take_more sources i s inside ∙ ap (λ (y : Source). take i sources ++ y ∷ []) (sym s-is)))
      (all_append (CanOpenSource opens_of) (take i sources) (s ∷ []) so_far (can, tt))

  -- one that cannot
  pub first_unopened : CannotOpenSource opens_of s → IsFirstUnopened opens_of sources s
  first_unopened cannot = record {
    before = take i sources;
    after = drop (suc i) sources;
    place = split_at sources i s inside ∙ ap (λ (y : Source). take i sources ++ y ∷ drop (suc i) sources) (sym s-is);
    can = so_far;
    cannot = cannot;
  }

-- what is known of the first inputs, and then of the others
pub known_all : (known : Source → Option (List ℕ)) (firsts all : List (Option (List ℕ))) (first later sources : List Source) (i : ℕ) → first ≡ take i sources → later ≡ drop i sources →
    firsts ≡ map known first → all ≡ firsts ++ map known later → all ≡ map known sources
known_all known firsts all first later sources i first-is later-is firsts-are all-are =
    all-are ∙ ap (λ (ks : List (Option (List ℕ))). ks ++ map known later) firsts-are ∙ sym (map-append known first later)
    ∙ ap (λ (ss : List Source). map known (ss ++ later)) first-is ∙ ap (λ (ss : List Source). map known (take i sources ++ ss)) later-is ∙ ap (map known) (take-append-drop i sources)

pub first_part : (first sources : List Source) (i n : ℕ) → first ≡ take i sources → i ≡ min n (length sources) → first ≡ take n sources
first_part first sources i n first-is i-is = first-is ∙ ap (λ (k : ℕ). take k sources) i-is ∙ take_min n sources

-- what holds also does if a call succeeds
pub on_ok : {T E P : Type 0} (r : Result T E) → P → OnOk r P
on_ok (Ok x) p = p
on_ok (Err e) p = tt
