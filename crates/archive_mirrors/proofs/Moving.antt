-- What runs keep, where texts come from, and what a sync moves.
use Rattle.std.proofs.Common.{◌≡◌, ℕ, ◌==◌, Bool, true, false, List, [], ◌∷◌, ◌++◌, if◌then◌else◌, refl, ap, sym, ◌∙◌, subst, inl, inr}
use Rattle.std.specs.List.{Contains}
use Rattle.std.proofs.lemmas.Bool.{eq-eqb}
use Rattle.std.proofs.lemmas.List.Elements.{Contains-append_left, Contains-append_right, Contains-append_cases, Contains-push_cases}
use Rattle.tws_file.specs.declared.«ruleset».Ruleset.{Ruleset}
use Rattle.tws_file.specs.declared.«ruleset».Ruleset.TheVariants.{Lynx, Ms}
use Rattle.tws_best.proofs.Members.{Contains-none, Contains-here, Contains-there, Contains-cases}
use Rattle.archive_mirrors.specs.Archives.{Archives, Copy, Event, takes, fetches, puts, puts_better, skips, restarts, start, at_archive, of_ruleset, copy_of, with_text, happens, run_from, run, MayHappen, AllMayHappen, own_of, outside_of}
use Rattle.archive_mirrors.specs.Reaching.{Reaches, Brings, Syncs}

-- ---- one archive, one ruleset

module _ {X : Type 0} where
  at_one : (b : Bool) (xs : List X) (x : X) → Contains (if b then xs else []) x → Contains xs x
  at_one true xs x has = has
  at_one false xs x has = absurd (Contains-none x has)

  pub from_archive : (there here : ℕ) (xs : List X) (x : X) → Contains (at_archive there here xs) x → Contains xs x
  from_archive there here xs x has = at_one (there == here) xs x has

  pub at_itself : (here : ℕ) (xs : List X) → at_archive here here xs ≡ xs
  at_itself here xs = ap (λ (b : Bool). if b then xs else []) (eq-eqb here here refl)

  pub from_ruleset : (its rules : Ruleset) (xs : List X) (x : X) → Contains (of_ruleset its rules xs) x → Contains xs x
  from_ruleset Lynx Lynx xs x has = has
  from_ruleset Lynx Ms xs x has = absurd (Contains-none x has)
  from_ruleset Ms Lynx xs x has = absurd (Contains-none x has)
  from_ruleset Ms Ms xs x has = has

  pub of_itself : (rules : Ruleset) (xs : List X) → of_ruleset rules rules xs ≡ xs
  of_itself Lynx xs = refl
  of_itself Ms xs = refl

-- ---- what is kept

-- what was taken stays
pub step-keeps_taken : (e : Event) (w : Archives) (here : ℕ) (t : List ℕ) → Contains (w.taken here) t →
    Contains ((happens e w).taken here) t
step-keeps_taken (takes archive text) w here t has = Contains-append_left (w.taken here) (at_archive archive here (text ∷ [])) t has
step-keeps_taken (fetches archive rules text) w here t has = has
step-keeps_taken (puts archive copy) w here t has = Contains-append_left (w.taken here) (at_archive archive here (copy.text ∷ [])) t has
step-keeps_taken (puts_better archive copy own text) w here t has = Contains-append_left (w.taken here) (at_archive archive here (text ∷ [])) t has
step-keeps_taken (skips archive copy own) w here t has = has
step-keeps_taken (restarts archive) w here t has = has

pub run-keeps_taken : (events : List Event) (w : Archives) (here : ℕ) (t : List ℕ) → Contains (w.taken here) t →
    Contains ((run_from events w).taken here) t
run-keeps_taken [] w here t has = has
run-keeps_taken (e ∷ events) w here t has = run-keeps_taken events (happens e w) here t (step-keeps_taken e w here t has)

-- and so do its sources
pub step-keeps : (e : Event) (w : Archives) (rules : Ruleset) (here : ℕ) (t : List ℕ) → Contains (w.sources rules here) t →
    Contains ((happens e w).sources rules here) t
step-keeps (takes archive text) w rules here t has = Contains-append_left (w.sources rules here) (at_archive archive here (text ∷ [])) t has
step-keeps (fetches archive named text) w rules here t has = has
step-keeps (puts archive copy) w rules here t has = Contains-append_left (w.sources rules here) (at_archive archive here (of_ruleset copy.rules rules copy.sources)) t has
step-keeps (puts_better archive copy own text) w rules here t has = Contains-append_left (w.sources rules here) (at_archive archive here (of_ruleset copy.rules rules copy.sources)) t has
step-keeps (skips archive copy own) w rules here t has = Contains-append_left (w.sources rules here) (at_archive archive here (of_ruleset copy.rules rules copy.sources)) t has
step-keeps (restarts archive) w rules here t has = has

pub run-keeps : (events : List Event) (w : Archives) (rules : Ruleset) (here : ℕ) (t : List ℕ) → Contains (w.sources rules here) t →
    Contains ((run_from events w).sources rules here) t
run-keeps [] w rules here t has = has
run-keeps (e ∷ events) w rules here t has = run-keeps events (happens e w) rules here t (step-keeps e w rules here t has)

pub run-append : (first second : List Event) (w : Archives) → run_from (first ++ second) w ≡ run_from second (run_from first w)
run-append [] second w = refl
run-append (e ∷ first) second w = run-append first second (happens e w)

-- ---- texts from outside

-- what an archive takes from outside is among its sources
pub own-sources : (events : List Event) (w : Archives) (rules : Ruleset) (here : ℕ) (t : List ℕ) → Contains (own_of here events) t →
    Contains ((run_from events w).sources rules here) t
own-sources [] w rules here t has = absurd (Contains-none t has)
own-sources (takes archive text ∷ events) w rules here t has =
    let rest = own-sources events (happens (takes archive text) w) rules here t in
    elim (Contains-append_cases (at_archive archive here (text ∷ [])) (own_of here events) t has) [
      | inl now ↦ run-keeps events (happens (takes archive text) w) rules here t (Contains-append_right (w.sources rules here) (at_archive archive here (text ∷ [])) t now)
      | inr later ↦ rest later
    ]
own-sources (fetches archive named text ∷ events) w rules here t has = own-sources events (happens (fetches archive named text) w) rules here t has
own-sources (puts archive copy ∷ events) w rules here t has = own-sources events (happens (puts archive copy) w) rules here t has
own-sources (puts_better archive copy own text ∷ events) w rules here t has = own-sources events (happens (puts_better archive copy own text) w) rules here t has
own-sources (skips archive copy own ∷ events) w rules here t has = own-sources events (happens (skips archive copy own) w) rules here t has
own-sources (restarts archive ∷ events) w rules here t has = own-sources events w rules here t has

-- all sources have this property
record AllFrom (P : List ℕ → Type 0) (w : Archives) : Type 0 where
  archives : (rules : Ruleset) (here : ℕ) (t : List ℕ) → Contains (w.sources rules here) t → P t
  copies : (copy : Copy) → Contains w.copies copy → (t : List ℕ) → Contains copy.sources t → P t

module _ (P : List ℕ → Type 0) where
  texts-from : (archive : ℕ) (text : List ℕ) (more : Ruleset → List (List ℕ)) (w : Archives) → AllFrom P w →
      ((rules : Ruleset) (t : List ℕ) → Contains (more rules) t → P t) → AllFrom P (with_text archive text more w)
  texts-from archive text more w from each = record {
    archives = λ rules here t has. elim (Contains-append_cases (w.sources rules here) (at_archive archive here (more rules)) t has) [
      | inl first ↦ from.archives rules here t first
      | inr second ↦ each rules t (from_archive archive here (more rules) t second)
    ];
    copies = from.copies;
  }

  step-from : (e : Event) (w : Archives) → MayHappen e w → ((t : List ℕ) → Contains (outside_of (e ∷ [])) t → P t) → AllFrom P w →
      AllFrom P (happens e w)
  step-from (takes archive text) w may each from = texts-from archive text (λ rules. text ∷ []) w from (λ rules. each)
  step-from (fetches archive rules text) w may each from = record {
    archives = from.archives;
    copies = λ copy has. elim (Contains-push_cases w.copies (copy_of w archive rules text) copy has) [
      | inl earlier ↦ from.copies copy earlier
      | inr same ↦ subst (λ (c : Copy). (t : List ℕ) → Contains c.sources t → P t) same (from.archives rules archive)
    ];
  }
  step-from (puts archive copy) w may each from =
      texts-from archive copy.text (λ rules. of_ruleset copy.rules rules copy.sources) w from
      (λ rules t has. from.copies copy may t (from_ruleset copy.rules rules copy.sources t has))
  step-from (puts_better archive copy own text) w may each from =
      texts-from archive text (λ rules. of_ruleset copy.rules rules copy.sources) w from
      (λ rules t has. from.copies copy may.fetched t (from_ruleset copy.rules rules copy.sources t has))
  step-from (skips archive copy own) w may each from = record {
    archives = λ rules here t has. elim (Contains-append_cases (w.sources rules here) (at_archive archive here (of_ruleset copy.rules rules copy.sources)) t has) [
      | inl first ↦ from.archives rules here t first
      | inr second ↦ from.copies copy may.fetched t (from_ruleset copy.rules rules copy.sources t (from_archive archive here (of_ruleset copy.rules rules copy.sources) t second))
    ];
    copies = from.copies;
  }
  step-from (restarts archive) w may each from = from

-- the texts that an event and later ones take from outside
outside-first : (e : Event) (events : List Event) (t : List ℕ) → Contains (outside_of (e ∷ [])) t → Contains (outside_of (e ∷ events)) t
outside-first (takes archive text) events t has = Contains-append_left (text ∷ []) (outside_of events) t has
outside-first (fetches archive rules text) events t has = absurd (Contains-none t has)
outside-first (puts archive copy) events t has = absurd (Contains-none t has)
outside-first (puts_better archive copy own text) events t has = absurd (Contains-none t has)
outside-first (skips archive copy own) events t has = absurd (Contains-none t has)
outside-first (restarts archive) events t has = absurd (Contains-none t has)

outside-later : (e : Event) (events : List Event) (t : List ℕ) → Contains (outside_of events) t → Contains (outside_of (e ∷ events)) t
outside-later (takes archive text) events t has = Contains-there text (outside_of events) t has
outside-later (fetches archive rules text) events t has = has
outside-later (puts archive copy) events t has = has
outside-later (puts_better archive copy own text) events t has = has
outside-later (skips archive copy own) events t has = has
outside-later (restarts archive) events t has = has

run-from : (P : List ℕ → Type 0) (events : List Event) (w : Archives) → AllMayHappen events w →
    ((t : List ℕ) → Contains (outside_of events) t → P t) →
    AllFrom P w → AllFrom P (run_from events w)
run-from P [] w may each from = from
run-from P (e ∷ events) w may each from =
    run-from P events (happens e w) may.1 (λ t has. each t (outside-later e events t has))
    (step-from P e w may.0 (λ t has. each t (outside-first e events t has)) from)

-- no source comes from nowhere
pub sources-outside : (events : List Event) → AllMayHappen events start → (rules : Ruleset) (here : ℕ) (t : List ℕ) →
    Contains ((run events).sources rules here) t → Contains (outside_of events) t
sources-outside events may rules here t has =
    (run-from (Contains (outside_of events)) events start may (λ x among. among)
    (record { archives = λ k n x none. absurd (Contains-none x none); copies = λ copy none. absurd (Contains-none copy none) })).archives rules here t has

-- a text from outside is some archive's own
pub taken-somewhere : (events : List Event) (t : List ℕ) → Contains (outside_of events) t → (there : ℕ) × Contains (own_of there events) t
taken-somewhere [] t has = absurd (Contains-none t has)
taken-somewhere (takes archive text ∷ events) t has =
    let rest = taken-somewhere events t in
    elim (Contains-cases text (outside_of events) t has) [
      | inl same ↦ (
        archive,
        Contains-append_left (at_archive archive archive (text ∷ [])) (own_of archive events) t
            (subst (λ (xs : List (List ℕ)). Contains xs t) (sym (at_itself archive (text ∷ []))) (subst (Contains (text ∷ [])) same (Contains-here text []))),
      )
      | inr later ↦ (let r = rest later in (r.0, Contains-append_right (at_archive archive r.0 (text ∷ [])) (own_of r.0 events) t r.1))
    ]
taken-somewhere (fetches archive rules text ∷ events) t has = taken-somewhere events t has
taken-somewhere (puts archive copy ∷ events) t has = taken-somewhere events t has
taken-somewhere (puts_better archive copy own text ∷ events) t has = taken-somewhere events t has
taken-somewhere (skips archive copy own ∷ events) t has = taken-somewhere events t has
taken-somewhere (restarts archive ∷ events) t has = taken-somewhere events t has

-- all texts from outside, if nothing comes from outside at last
pub outside-before : (before after : List Event) → outside_of after ≡ [] → (t : List ℕ) → Contains (outside_of (before ++ after)) t →
    Contains (outside_of before) t
outside-before [] after none t has = subst (λ (xs : List (List ℕ)). Contains xs t) none has
outside-before (takes archive text ∷ before) after none t has =
    let rest = outside-before before after none t in
    elim (Contains-cases text (outside_of (before ++ after)) t has) [
      | inl same ↦ subst (Contains (text ∷ outside_of before)) same (Contains-here text (outside_of before))
      | inr later ↦ Contains-there text (outside_of before) t (rest later)
    ]
outside-before (fetches archive rules text ∷ before) after none t has = outside-before before after none t has
outside-before (puts archive copy ∷ before) after none t has = outside-before before after none t has
outside-before (puts_better archive copy own text ∷ before) after none t has = outside-before before after none t has
outside-before (skips archive copy own ∷ before) after none t has = outside-before before after none t has
outside-before (restarts archive ∷ before) after none t has = outside-before before after none t has

-- ---- what reaches an archive

-- a put brings the sources of its copy
brought : (w : Archives) (here : ℕ) (copy : Copy) (t : List ℕ) → Contains copy.sources t →
    Contains (w.sources copy.rules here ++ at_archive here here (of_ruleset copy.rules copy.rules copy.sources)) t
brought w here copy t has =
    Contains-append_right (w.sources copy.rules here) (at_archive here here (of_ruleset copy.rules copy.rules copy.sources)) t
    (subst (λ (xs : List (List ℕ)). Contains xs t)
    (sym (at_itself here (of_ruleset copy.rules copy.rules copy.sources) ∙ of_itself copy.rules copy.sources)) has)

brought_at : (w : Archives) (archive here : ℕ) (one copy : Copy) (t : List ℕ) → (archive ≡ here) × (one ≡ copy) → Contains copy.sources t →
    Contains (w.sources copy.rules here ++ at_archive archive here (of_ruleset one.rules copy.rules one.sources)) t
brought_at w archive here one copy t same has =
    subst (λ (n : ℕ). Contains (w.sources copy.rules here ++ at_archive n here (of_ruleset one.rules copy.rules one.sources)) t) (sym same.0)
    (subst (λ (c : Copy). Contains (w.sources copy.rules here ++ at_archive here here (of_ruleset c.rules copy.rules c.sources)) t) (sym same.1)
    (brought w here copy t has))

put-brings : (put : Event) (w : Archives) (here : ℕ) (copy : Copy) → Brings put here copy → (t : List ℕ) → Contains copy.sources t →
    Contains ((happens put w).sources copy.rules here) t
put-brings (takes archive text) w here copy is t has = absurd is
put-brings (fetches archive rules text) w here copy is t has = absurd is
put-brings (puts archive one) w here copy is t has = brought_at w archive here one copy t is has
put-brings (puts_better archive one own text) w here copy is t has = brought_at w archive here one copy t is has
put-brings (skips archive one own) w here copy is t has = brought_at w archive here one copy t is has
put-brings (restarts archive) w here copy is t has = absurd is

pub sync-reaches : (rules : Ruleset) (w : Archives) (events : List Event) (there here : ℕ) → Syncs rules w events there here →
    Reaches rules w events there here
sync-reaches rules w events there here s t has =
    let at = run_from s.before w in
    let copy = copy_of at there rules s.text in
    let fetched = happens (fetches there rules s.text) at in
    let there_then : Contains copy.sources t = run-keeps s.before w rules there t has in
    let mid = run_from s.between fetched in
    let here_then : Contains ((happens s.put mid).sources rules here) t = put-brings s.put mid here copy s.put_is t there_then in
    let here_last : Contains ((run_from s.after (happens s.put mid)).sources rules here) t = run-keeps s.after (happens s.put mid) rules here t here_then in
    let whole : run_from events w ≡ run_from s.after (happens s.put mid) =
    ap (λ (es : List Event). run_from es w) s.split ∙ run-append s.before (fetches there rules s.text ∷ (s.between ++ s.put ∷ s.after)) w ∙
    run-append s.between (s.put ∷ s.after) fetched in
    subst (λ (v : Archives). Contains (v.sources rules here) t) (sym whole) here_last

pub reaches-then : (rules : Ruleset) (w : Archives) (first second : List Event) (there between here : ℕ) →
    Reaches rules w first there between →
    Reaches rules (run_from first w) second between here → Reaches rules w (first ++ second) there here
reaches-then rules w first second there between here one other t has =
    subst (λ (v : Archives). Contains (v.sources rules here) t) (sym (run-append first second w)) (other t (one t has))
