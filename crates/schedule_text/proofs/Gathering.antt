-- The events of a list of lines, line by line.
use Rattle.std.proofs.Common.{◌≡◌, ℕ, ◌+◌, ◌-◌, ◌<◌, Bool, true, false, List, [], ◌∷◌, ◌++◌, length, map, take, get_or, refl, ap, sym, subst, ◌∙◌, append_assoc, true≢false, arith, Option, None, Some}
use Rattle.std.specs.List.{slice_get}
use Rattle.std.specs.Option.{option_map}
use Rattle.std.proofs.lemmas.List.{get_or-map, take_more}
use Rattle.std.proofs.lemmas.Option.{slice_get-get_or}
use Rattle.archive_model.specs.World.{Event}
use Rattle.schedule_text.specs.Schedule.{event_in, events_by, words_of, lines_of, both, line_events, lines_events, LineAdds, IsFirstBadLine}

-- no words name no event, so a line whose words name one has words
pub event_read : (line : List ℕ) (words : List (List ℕ)) (e : Event) → words ≡ words_of line → event_in words ≡ Some e
    → line_events line ≡ Some (e ∷ [])
event_read line [] e is named = cc
event_read line (w ∷ ws) e is named = ap events_by (sym is) ∙ ap (option_map (λ (f : Event). f ∷ [])) named

append-nil : (es : List Event) → es ++ [] ≡ es
append-nil [] = refl
append-nil (e ∷ es) = ap (λ (fs : List Event). e ∷ fs) (append-nil es)

both-nothing : (found : Option (List Event)) → both found (Some []) ≡ found
both-nothing None = refl
both-nothing (Some events) = ap (λ (es : List Event). Some es) (append-nil events)

nothing-both : (found : Option (List Event)) → both (Some []) found ≡ found
nothing-both None = refl
nothing-both (Some events) = refl

both-assoc : (a b c : Option (List Event)) → both (both a b) c ≡ both a (both b c)
both-assoc None b c = refl
both-assoc (Some x) None c = refl
both-assoc (Some x) (Some y) None = refl
both-assoc (Some x) (Some y) (Some z) = ap (λ (es : List Event). Some es) (append_assoc x y z)

-- one more line
lines_events-push : (lines : List (List ℕ)) (line : List ℕ) → lines_events (lines ++ line ∷ []) ≡ both (lines_events lines) (line_events line)
lines_events-push [] line = both-nothing (line_events line) ∙ sym (nothing-both (line_events line))
lines_events-push (l ∷ lines) line =
    ap (both (line_events l)) (lines_events-push lines line) ∙ sym (both-assoc (line_events l) (lines_events lines) (line_events line))

-- the line at a place, as what holds it is viewed
pub line_there : {X : Type 0} (xs : List X) (f : X → List ℕ) (i : ℕ) (x : X) (line : List ℕ) → i < length xs → x ≡ get_or xs i x → line ≡ f x
    → get_or (map f xs) i [] ≡ line
line_there xs f i x line inside is named = get_or-map f xs i x [] inside ∙ ap f (sym is) ∙ sym named

module _ (lines : List (List ℕ)) (i : ℕ) (inside : i < length lines) (line : List ℕ) (there : get_or lines i [] ≡ line) where
  lines_events-more : (old added : List Event) → lines_events (take i lines) ≡ Some old → line_events line ≡ Some added
      → lines_events (take (i + 1) lines) ≡ Some (old ++ added)
  lines_events-more old added so_far read =
      ap lines_events (take_more lines i [] inside)
      ∙ lines_events-push (take i lines) (get_or lines i [])
      ∙ ap (λ (found : Option (List Event)). both found (line_events (get_or lines i []))) so_far
      ∙ ap (λ (l : List ℕ). both (Some old) (line_events l)) there
      ∙ ap (both (Some old)) read

  -- the next line is read
  pub line_read : (is_read : Bool) (old new : List Event) → LineAdds line old new is_read → is_read ≡ true
      → lines_events (take i lines) ≡ Some old → lines_events (take (i + 1) lines) ≡ Some new
  line_read true old new (added, read, is) same so_far =
      lines_events-more old added so_far read ∙ ap (λ (es : List Event). Some es) (sym is)
  line_read false old new adds same so_far = absurd (true≢false (sym same))

  -- the next line is the first that is not
  pub first_bad : (text : List ℕ) (n : ℕ) (is_read : Bool) (old new : List Event) → lines ≡ lines_of text → n ≡ i + 1 → LineAdds line old new is_read
      → is_read ≡ false → lines_events (take i lines) ≡ Some old → IsFirstBadLine text n
  first_bad text n true old new split number adds same so_far = absurd (true≢false same)
  first_bad text n false old new split number bad same so_far =
      let place : i ≡ n - 1 = omega arith in
      record {
        counted = omega arith;
        line = line;
        there = subst (λ (ls : List (List ℕ)). slice_get ls (n - 1) ≡ Some line) split
            (subst (λ (k : ℕ). slice_get lines k ≡ Some line) place (slice_get-get_or lines i [] inside ∙ ap (λ (l : List ℕ). Some l) there));
        before = old;
        read = subst (λ (ls : List (List ℕ)). lines_events (take (n - 1) ls) ≡ Some old) split
            (subst (λ (k : ℕ). lines_events (take k lines) ≡ Some old) place so_far);
        bad = bad;
      }
