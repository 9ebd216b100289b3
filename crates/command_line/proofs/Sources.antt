-- The inputs of the names that were given.
use Rattle.std.proofs.Common.{◌≡◌, ℕ, List, [], ◌∷◌, ◌++◌, Some, ap, sym, subst, map, take, length, get_or, ◌<◌, ◌+◌, ◌∙◌, Bor}
use Rattle.std.proofs.lemmas.List.{take_more, map-append}
use Rattle.clap.specs.Words.{Text}
use Rattle.command_line.specs.declared.source.Source.{Source}
use Rattle.command_line.specs.Arguments.{AreSources, IsSource}

-- one more input that was named
one_more_source : (names : List Text) (name : Text) (sources : List Source) (source : Source) → AreSources names sources → IsSource (Some name) source → AreSources (names ++ name ∷ []) (sources ++ source ∷ [])
one_more_source [] name [] source are is = (is, tt)
one_more_source [] name (s ∷ sources) source are is = absurd are
one_more_source (n ∷ names) name [] source are is = absurd are
one_more_source (n ∷ names) name (s ∷ sources) source are is = (are.0, one_more_source names name sources source are.1 is)

-- the same of a loop over the names
pub sources_more : (names : List (Bor Text)) (i : ℕ) (d : Bor Text) (sources after : List Source) (source : Source) → i < length names →
    AreSources (map (λ name. name.now) (take i names)) sources → IsSource (Some (get_or names i d).now) source → after ≡ sources ++ source ∷ [] →
    AreSources (map (λ name. name.now) (take (i + 1) names)) after
sources_more names i d sources after source inside are is after-is =
    let first : List Text = map (λ (name : Bor Text). name.now) (take i names) in
    let more : map (λ (name : Bor Text). name.now) (take (i + 1) names) ≡ first ++ (get_or names i d).now ∷ [] =
    ap (map (λ (name : Bor Text). name.now)) (take_more names i d inside) ∙ map-append (λ (name : Bor Text). name.now) (take i names) (get_or names i d ∷ []) in
    subst (λ (ss : List Source). AreSources (map (λ (name : Bor Text). name.now) (take (i + 1) names)) ss) (sym after-is)
    (subst (λ (ns : List Text). AreSources ns (sources ++ source ∷ [])) (sym more) (one_more_source first (get_or names i d).now sources source are is))
