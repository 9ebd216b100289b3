-- What the laws say, from what holds of every run.
use Rattle.std.proofs.Common.{◌≡◌, ◌≢◌, ◌↔◌, ℕ, List, [], ◌∷◌, ◌++◌, ap, sym, ◌∙◌, subst, append-nil}
use Rattle.std.specs.List.{Contains}
use Rattle.tws_file.specs.declared.«ruleset».Ruleset.{Ruleset}
use Rattle.tws_best.specs.Best.{KeyedBody, Collected, IsCollectionOf, IsSolutionIn, collection_text, solutions_of, IsBestOver}
use Rattle.tws_best.proofs.Bests.{held_by_best}
use Rattle.tws_best.proofs.Sets.{one_collection}
use Rattle.tws_compare.specs.Part.{IsBetterPart, HasNothingBetter}
use Rattle.archive_mirrors.specs.Archives.{Archives, Copy, Event, start, run, run_from, happens, AllMayHappen, own_of, outside_of}
use Rattle.archive_mirrors.specs.Reaching.{Reaches, HoldsText, IsNoWorse, AllReach, OnlyAt}
use Rattle.archive_mirrors.proofs.Covering.{AsGood, good_itself, good_then, good_joined, good_back, good_members, good_collection, more_cover, covers_then, Covers, covers_itself, covers_both, right_covers}
use Rattle.archive_mirrors.proofs.Copies.{IsCollectionText, from_best, best_good, other_good, part_good, better_named, empty_text, empty_good, nothing_part}
use Rattle.tws_best.proofs.Members.{Contains-none}
use Rattle.archive_mirrors.proofs.Moving.{run-keeps, run-keeps_taken, run-append, own-sources, sources-outside, taken-somewhere, outside-before}
use Rattle.archive_mirrors.proofs.Standing.{run-good, copy-text}
use Rattle.archive_mirrors.proofs.Having.{some_better, nothing_itself}

-- as good in both directions
both_ways : (rules : Ruleset) (xs ys : List (List ℕ)) (c : Collected) → AsGood rules xs ys →
    IsCollectionOf rules xs c ↔ IsCollectionOf rules ys c
both_ways rules xs ys c good = (good_collection rules xs ys c good, good_collection rules ys xs c (good_back rules xs ys good))

pub best_as : (rules : Ruleset) (xs ys : List (List ℕ)) (text : List ℕ) → AsGood rules xs ys → IsBestOver rules xs text →
    IsBestOver rules ys text
best_as rules xs ys text good best = (best.0, good_collection rules xs ys best.0 good best.1, best.2)

pub one_text : (rules : Ruleset) (xs : List (List ℕ)) (x y : List ℕ) → IsBestOver rules xs x → IsBestOver rules xs y → x ≡ y
one_text rules xs x y first second = first.2 ∙ ap collection_text (one_collection rules xs first.0 second.0 first.1 second.1) ∙ sym second.2

-- ---- safety and absorption

pub sources-best : (events : List Event) → AllMayHappen events start → (rules : Ruleset) (here : ℕ) (c : Collected) →
    IsCollectionOf rules ((run events).taken here) c ↔ IsCollectionOf rules ((run events).sources rules here) c
sources-best events may rules here c = both_ways rules ((run events).taken here) ((run events).sources rules here) c (run-good events may rules here)

pub whole-absorbed : (rules : Ruleset) (theirs own : List (List ℕ)) (text : List ℕ) (c : Collected) → IsBestOver rules theirs text →
    IsCollectionOf rules (own ++ text ∷ []) c ↔ IsCollectionOf rules (own ++ theirs) c
whole-absorbed rules theirs own text c best =
    both_ways rules (own ++ text ∷ []) (own ++ theirs) c
    (good_joined rules own own (text ∷ []) theirs (good_itself rules own) (best_good rules theirs text best))

pub better-absorbed : (rules : Ruleset) (theirs own earlier : List (List ℕ)) (fetched old text : List ℕ) (c : Collected) →
    IsBestOver rules theirs fetched →
    IsBestOver rules earlier old → ((t : List ℕ) → Contains earlier t → Contains own t) → IsBetterPart fetched old text →
    IsCollectionOf rules (own ++ text ∷ []) c ↔ IsCollectionOf rules (own ++ theirs) c
better-absorbed rules theirs own earlier fetched old text c best old_best there b =
    let covered = covers_then rules own earlier (old ∷ []) (more_cover rules earlier own there) (best_good rules earlier old old_best).1 in
    both_ways rules (own ++ text ∷ []) (own ++ theirs) c
    (good_then rules (own ++ text ∷ []) (own ++ fetched ∷ []) (own ++ theirs)
    (part_good rules fetched old text b (better_named rules fetched old text (from_best rules theirs fetched best) b) own covered)
    (good_joined rules own own (fetched ∷ []) theirs (good_itself rules own) (best_good rules theirs fetched best)))

pub other-absorbed : (rules other : Ruleset) (theirs own : List (List ℕ)) (text : List ℕ) (c : Collected) → rules ≢ other →
    IsBestOver rules theirs text →
    IsCollectionOf other (own ++ text ∷ []) c ↔ IsCollectionOf other own c
other-absorbed rules other theirs own text c apart best =
    let good : AsGood other (own ++ text ∷ []) (own ++ []) =
    good_joined other own own (text ∷ []) [] (good_itself other own) (other_good rules other text apart (from_best rules theirs text best)) in
    both_ways other (own ++ text ∷ []) own c (subst (AsGood other (own ++ text ∷ [])) (append-nil own) good)

-- ---- convergence

pub alike : (first second : List Event) → AllMayHappen first start → AllMayHappen second start → (rules : Ruleset) (here there : ℕ) →
    ((t : List ℕ) → Contains ((run first).sources rules here) t ↔ Contains ((run second).sources rules there) t) → (x y : List ℕ) →
    IsBestOver rules ((run first).taken here) x → IsBestOver rules ((run second).taken there) y → x ≡ y
alike first second may_first may_second rules here there same x y best_x best_y =
    let sources = (run second).sources rules there in
    let good = good_then rules ((run first).taken here) ((run first).sources rules here) sources (run-good first may_first rules here)
    (good_members rules ((run first).sources rules here) sources (λ t. (same t).0) (λ t. (same t).1)) in
    one_text rules sources x y (best_as rules ((run first).taken here) sources x good best_x)
    (best_as rules ((run second).taken there) sources y (run-good second may_second rules there) best_y)

-- what is reached by all is as good as all texts from outside
all-good : (before after : List Event) → AllMayHappen (before ++ after) start → outside_of after ≡ [] →
    (rules : Ruleset) (archives : List ℕ) →
    OnlyAt archives before → (here : ℕ) → AllReach rules (run before) after archives here →
    AsGood rules ((run (before ++ after)).taken here) (outside_of (before ++ after))
all-good before after may none rules archives only here reached =
    let sources = (run (before ++ after)).sources rules here in
    good_then rules ((run (before ++ after)).taken here) sources (outside_of (before ++ after)) (run-good (before ++ after) may rules here)
    (good_members rules sources (outside_of (before ++ after)) (sources-outside (before ++ after) may rules here)
    (λ t has.
    let first = taken-somewhere before t (outside-before before after none t has) in
    subst (λ (v : Archives). Contains (v.sources rules here) t) (sym (run-append before after start))
    (reached first.0 (only first.0 t first.1) t (own-sources before start rules first.0 t first.1))))

pub all-best : (before after : List Event) → AllMayHappen (before ++ after) start → outside_of after ≡ [] →
    (rules : Ruleset) (archives : List ℕ) →
    OnlyAt archives before → (here : ℕ) → AllReach rules (run before) after archives here → (text : List ℕ) →
    IsBestOver rules ((run (before ++ after)).taken here) text → IsBestOver rules (outside_of (before ++ after)) text
all-best before after may none rules archives only here reached text best =
    best_as rules ((run (before ++ after)).taken here) (outside_of (before ++ after)) text
    (all-good before after may none rules archives only here reached) best

pub all-equal : (before after : List Event) → AllMayHappen (before ++ after) start → outside_of after ≡ [] →
    (rules : Ruleset) (archives : List ℕ) →
    OnlyAt archives before → (here there : ℕ) → AllReach rules (run before) after archives here → AllReach rules (run before) after archives there →
    (x y : List ℕ) →
    IsBestOver rules ((run (before ++ after)).taken here) x → IsBestOver rules ((run (before ++ after)).taken there) y → x ≡ y
all-equal before after may none rules archives only here there reached_here reached_there x y best_x best_y =
    one_text rules (outside_of (before ++ after)) x y
    (all-best before after may none rules archives only here reached_here x best_x)
    (all-best before after may none rules archives only there reached_there y best_y)

-- ---- what lasts

pub never-worse : (events : List Event) (w : Archives) (rules : Ruleset) (here : ℕ) (old new : Collected) →
    IsCollectionOf rules (w.taken here) old →
    IsCollectionOf rules ((run_from events w).taken here) new → IsNoWorse old new
never-worse events w rules here old new of_old of_new e has =
    let s = (of_old.best.best e has).member in
    held_by_best (IsSolutionIn rules ((run_from events w).taken here)) new.entries of_new.best e (record {
      text = s.text;
      among = run-keeps_taken events w here s.text s.among;
      file = s.file;
      is_text = s.is_text;
      present = s.present;
    })

-- what reaches an archive stays
sources-last : (before middle after : List Event) (rules : Ruleset) (there here : ℕ) (text : List ℕ) →
    Reaches rules (run before) middle there here →
    Contains ((run before).sources rules there) text → Contains ((run (before ++ (middle ++ after))).sources rules here) text
sources-last before middle after rules there here text reached has =
    let w = run before in
    let v = run_from middle w in
    let whole : run (before ++ (middle ++ after)) ≡ run_from after v = run-append before (middle ++ after) start ∙ run-append middle after w in
    subst (λ (m : Archives). Contains (m.sources rules here) text) (sym whole) (run-keeps after v rules here text (reached text has))

-- a collection over texts holds each solution of each
pub holds-solution : (rules : Ruleset) (texts : List (List ℕ)) (c : Collected) → IsCollectionOf rules texts c → (text : List ℕ) →
    Contains texts text → HoldsText c text
holds-solution rules texts c of text among f is e has =
    held_by_best (IsSolutionIn rules texts) c.entries of.best e (record {
      text = text;
      among = among;
      file = f;
      is_text = is;
      present = subst (λ (k : Ruleset). Contains (solutions_of k (f ∷ [])) e) of.ruleset_is has;
    })

pub lasting : (before middle after : List Event) → AllMayHappen (before ++ (middle ++ after)) start →
    (rules : Ruleset) (there here : ℕ) (text : List ℕ) →
    Contains (own_of there before) text → Reaches rules (run before) middle there here → (c : Collected) →
    IsCollectionOf rules ((run (before ++ (middle ++ after))).taken here) c → HoldsText c text
lasting before middle after may rules there here text own reached c of =
    let events = before ++ (middle ++ after) in
    holds-solution rules ((run events).sources rules here) c ((sources-best events may rules here c).0 of) text
    (sources-last before middle after rules there here text reached (own-sources before start rules there text own))

may-first : (first second : List Event) (w : Archives) → AllMayHappen (first ++ second) w → AllMayHappen first w
may-first [] second w may = tt
may-first (e ∷ first) second w may = (may.0, may-first first second (happens e w) may.1)

pub collection-lasts : (before middle after : List Event) → AllMayHappen (before ++ (middle ++ after)) start →
    (rules : Ruleset) (there here : ℕ) →
    Reaches rules (run before) middle there here → (old new : Collected) → IsCollectionOf rules ((run before).taken there) old →
    IsCollectionOf rules ((run (before ++ (middle ++ after))).taken here) new → IsNoWorse old new
collection-lasts before middle after may rules there here reached old new of_old of_new e has =
    let events = before ++ (middle ++ after) in
    let best_old = (sources-best before (may-first before (middle ++ after) start may) rules there old).0 of_old in
    let best_new = (sources-best events may rules here new).0 of_new in
    let s = (best_old.best.best e has).member in
    held_by_best (IsSolutionIn rules ((run events).sources rules here)) new.entries best_new.best e (record {
      text = s.text;
      among = sources-last before middle after rules there here s.text reached s.among;
      file = s.file;
      is_text = s.is_text;
      present = s.present;
    })

-- what a collection has comes from outside
pub entries-outside : (events : List Event) → AllMayHappen events start → (rules : Ruleset) (here : ℕ) (c : Collected) →
    IsCollectionOf rules ((run events).taken here) c →
    (e : KeyedBody) → Contains c.entries e → IsSolutionIn rules (outside_of events) e
entries-outside events may rules here c of e has =
    let s = (((sources-best events may rules here c).0 of).best.best e has).member in
    record { text = s.text; among = sources-outside events may rules here s.text s.among; file = s.file; is_text = s.is_text; present = s.present }

-- ---- what may happen

-- what of a copy is better than another one of its ruleset is some text
pub better-happens : (events : List Event) → AllMayHappen events start → (copy own : Copy) → Contains (run events).copies copy →
    Contains (run events).copies own →
    own.rules ≡ copy.rules → (text : List ℕ) × IsBetterPart copy.text own.text text
better-happens events may copy own has has_own same =
    some_better copy.rules copy.text own.text (copy-text events may copy has)
    (subst (λ (k : Ruleset). IsCollectionText k own.text) same (copy-text events may own has_own))

-- ---- nothing to put

pub best-itself : (rules : Ruleset) (texts : List (List ℕ)) (text : List ℕ) → IsBestOver rules texts text → HasNothingBetter text text
best-itself rules texts text best = nothing_itself rules text (from_best rules texts text best)

-- a text of which nothing is better than another is covered by that one
nothing_covered : (rules : Ruleset) (mine theirs : List ℕ) → IsCollectionText rules mine → HasNothingBetter mine theirs →
    Covers rules (theirs ∷ []) (mine ∷ [])
nothing_covered rules mine theirs t none =
    let part = nothing_part rules mine theirs t none in
    let good =
    part_good rules mine theirs (empty_text rules) part (better_named rules mine theirs (empty_text rules) t part) (theirs ∷ [])
    (covers_itself rules (theirs ∷ [])) in
    let empty : Covers rules (theirs ∷ []) (theirs ∷ empty_text rules ∷ []) =
    covers_both rules (theirs ∷ []) (theirs ∷ []) (empty_text rules ∷ []) (covers_itself rules (theirs ∷ []))
    (covers_then rules (theirs ∷ []) [] (empty_text rules ∷ []) (more_cover rules [] (theirs ∷ []) (λ x has. absurd (Contains-none x has)))
    (empty_good rules rules).1) in
    covers_then rules (theirs ∷ []) (theirs ∷ empty_text rules ∷ []) (mine ∷ []) empty
    (covers_then rules (theirs ∷ empty_text rules ∷ []) (theirs ∷ mine ∷ []) (mine ∷ []) good.0 (right_covers rules (theirs ∷ []) (mine ∷ [])))

pub both-equal : (rules : Ruleset) (xs ys : List (List ℕ)) (x y : List ℕ) → IsBestOver rules xs x → IsBestOver rules ys y →
    HasNothingBetter x y → HasNothingBetter y x → x ≡ y
both-equal rules xs ys x y best_x best_y none_x none_y =
    let good : AsGood rules (x ∷ []) (y ∷ []) =
    (nothing_covered rules y x (from_best rules ys y best_y) none_y, nothing_covered rules x y (from_best rules xs x best_x) none_x) in
    one_text rules ys x y
    (best_as rules xs ys x
    (good_then rules xs (x ∷ []) ys (good_back rules (x ∷ []) xs (best_good rules xs x best_x))
    (good_then rules (x ∷ []) (y ∷ []) ys good (best_good rules ys y best_y))) best_x)
    best_y
