-- Several archives that take files from outside and one another's collections: what each has taken, and what may happen.
use Rattle.std.specs.Prelude.{◌≡◌, ℕ, ◌==◌, List, [], ◌∷◌, ◌++◌, Contains, if◌then◌else◌}
use Rattle.tws_file.specs.declared.«ruleset».Ruleset.{Ruleset}
use Rattle.tws_file.specs.declared.«ruleset».Ruleset.TheVariants.{Lynx, Ms}
use Rattle.tws_best.specs.Best.{IsBestOver}
use Rattle.tws_compare.specs.Part.{IsBetterPart, HasNothingBetter}

-- ---- what archives are

-- a collection that was fetched
pub record Copy : Type 0 where
  pub archive : ℕ
  pub rules : Ruleset
  pub text : List ℕ
  -- the texts from outside that the collection stood for, as `Archives` counts them
  pub sources : List (List ℕ)

-- Archives by their numbers; one without events has nothing. An archive that is lost has no further events, and one that
-- replaces it has a new number.
pub record Archives : Type 0 where
  -- all texts that each has taken
  pub taken : ℕ → List (List ℕ)
  -- the texts from outside that each archive's collection of a ruleset stands for: those that it took, and those that the
  -- copies stood for that it took
  pub sources : Ruleset → ℕ → List (List ℕ)
  -- every copy that was ever fetched; none is lost
  pub copies : List Copy

-- no archive has anything
abbrev pub start : Archives
start = record { taken = λ archive. []; sources = λ rules archive. []; copies = [] }

-- What may happen next. A sync that is lost is a copy that is never put.
pub data Event : Type 0 where
  -- an archive takes a text from outside: anything but what the other events put
  takes : (archive : ℕ) (text : List ℕ) → Event
  -- the text of an archive's collection is fetched
  fetches : (archive : ℕ) (rules : Ruleset) (text : List ℕ) → Event
  -- an archive takes a copy, of any age and perhaps again
  puts : (archive : ℕ) (copy : Copy) → Event
  -- an archive takes only what of a copy is better than in a copy of its own collection, each of any age
  puts_better : (archive : ℕ) (copy own : Copy) (text : List ℕ) → Event
  -- nothing of a copy is better than in a copy of an archive's own collection, so nothing is put there
  skips : (archive : ℕ) (copy own : Copy) → Event
  -- an archive restarts, with the collections that it has kept
  restarts : (archive : ℕ) → Event

-- ---- what happens

-- what is at one archive only
abbrev pub at_archive : {X : Type 0} → (there here : ℕ) → List X → List X
at_archive there here xs = if there == here then xs else []

-- what is of one ruleset only
abbrev pub of_ruleset : {X : Type 0} → (its rules : Ruleset) → List X → List X
of_ruleset Lynx Lynx xs = xs
of_ruleset Lynx Ms xs = []
of_ruleset Ms Lynx xs = []
of_ruleset Ms Ms xs = xs

-- the copy that is fetched
abbrev pub copy_of : Archives → ℕ → Ruleset → List ℕ → Copy
copy_of w archive rules text = record { archive = archive; rules = rules; text = text; sources = w.sources rules archive }

-- an archive has all of a copy's collection
abbrev pub with_sources : ℕ → Copy → Archives → Archives
with_sources archive copy w =
    record {
      taken = w.taken;
      sources = λ rules here. w.sources rules here ++ at_archive archive here (of_ruleset copy.rules rules copy.sources);
      copies = w.copies;
    }

-- an archive takes a text that stands for these sources of each ruleset
abbrev pub with_text : ℕ → (text : List ℕ) → (Ruleset → List (List ℕ)) → Archives → Archives
with_text archive text more w =
    record {
      taken = λ here. w.taken here ++ at_archive archive here (text ∷ []);
      sources = λ rules here. w.sources rules here ++ at_archive archive here (more rules);
      copies = w.copies;
    }

abbrev pub happens : Event → Archives → Archives
happens (takes archive text) w = with_text archive text (λ rules. text ∷ []) w
happens (fetches archive rules text) w = record { taken = w.taken; sources = w.sources; copies = w.copies ++ copy_of w archive rules text ∷ [] }
happens (puts archive copy) w = with_text archive copy.text (λ rules. of_ruleset copy.rules rules copy.sources) w
happens (puts_better archive copy own text) w = with_text archive text (λ rules. of_ruleset copy.rules rules copy.sources) w
happens (skips archive copy own) w = with_sources archive copy w
happens (restarts archive) w = w

abbrev pub run_from : List Event → Archives → Archives
run_from [] w = w
run_from (e ∷ events) w = run_from events (happens e w)

abbrev pub run : List Event → Archives
run events = run_from events start

-- ---- what may happen

-- both copies were fetched, the second one from the archive itself
pub record MayPutBetter (archive : ℕ) (copy own : Copy) (text : List ℕ) (copies : List Copy) : Type 0 where
  pub fetched : Contains copies copy
  pub own_fetched : Contains copies own
  pub own_is : own.archive ≡ archive
  pub better : IsBetterPart copy.text own.text text

-- the same if nothing is put
pub record MaySkip (archive : ℕ) (copy own : Copy) (copies : List Copy) : Type 0 where
  pub fetched : Contains copies copy
  pub own_fetched : Contains copies own
  pub own_is : own.archive ≡ archive
  pub nothing : HasNothingBetter copy.text own.text

-- What is fetched is the collection as it is then; what is put was fetched.
abbrev pub MayHappen : Event → Archives → Type 0
MayHappen (takes archive text) w = Unit {0}
MayHappen (fetches archive rules text) w = IsBestOver rules (w.taken archive) text
MayHappen (puts archive copy) w = Contains w.copies copy
MayHappen (puts_better archive copy own text) w = MayPutBetter archive copy own text w.copies
MayHappen (skips archive copy own) w = MaySkip archive copy own w.copies
MayHappen (restarts archive) w = Unit {0}

abbrev pub AllMayHappen : List Event → Archives → Type 0
AllMayHappen [] w = Unit {0}
AllMayHappen (e ∷ events) w = MayHappen e w × AllMayHappen events (happens e w)

-- ---- texts from outside

-- those that an archive itself takes by these events
abbrev pub own_of : ℕ → List Event → List (List ℕ)
own_of here [] = []
own_of here (takes archive text ∷ events) = at_archive archive here (text ∷ []) ++ own_of here events
own_of here (fetches archive rules text ∷ events) = own_of here events
own_of here (puts archive copy ∷ events) = own_of here events
own_of here (puts_better archive copy own text ∷ events) = own_of here events
own_of here (skips archive copy own ∷ events) = own_of here events
own_of here (restarts archive ∷ events) = own_of here events

-- those that any archive takes
abbrev pub outside_of : List Event → List (List ℕ)
outside_of [] = []
outside_of (takes archive text ∷ events) = text ∷ outside_of events
outside_of (fetches archive rules text ∷ events) = outside_of events
outside_of (puts archive copy ∷ events) = outside_of events
outside_of (puts_better archive copy own text ∷ events) = outside_of events
outside_of (skips archive copy own ∷ events) = outside_of events
outside_of (restarts archive ∷ events) = outside_of events
