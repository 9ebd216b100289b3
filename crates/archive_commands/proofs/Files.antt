-- What `put` did with several files, from what it did with each.
use Rattle.std.proofs.Common.{◌≡◌, ◌≢◌, ◌≤◌, ◌<◌, ◌+◌, ◌∙◌, ℕ, ◌==◌, ◌&&◌, if◌then◌else◌, Bool, true, false, List, [], ◌∷◌, ◌++◌, length, map, take, drop, get_or, Option, Some, None, Result, Ok, Err, OnOk, IfErr, string_bytes, arith, refl, ap, sym, subst, true≢false}
use Rattle.std.proofs.lemmas.Bool.{eqb-false, eqb-true, false_from_ne_true, ltb-false}
use Rattle.std.proofs.lemmas.List.{drop_more, length-drop, length-map, map-append, take-append-drop, take_more}
use Rattle.std.proofs.lemmas.List.Folds.{list_any_at}
use Rattle.std.specs.Io.KnownBytes.{Appends}
use Rattle.tftp_packet.specs.declared.endpoint.Endpoint.{Endpoint}
use Rattle.archive_wire.specs.Wire.{Entry}
use Rattle.archive_runs.specs.declared.run_fault.RunFault.{RunFault}
use Rattle.archive_runs.specs.Rounds.{PutsInRounds}
use Rattle.command_line.specs.declared.source.Source.{Source}
use Rattle.command_line.specs.declared.source.Source.TheVariants.{Standard, Named}
use Rattle.command_line.specs.declared.tool_fault.ToolFault.{ToolFault}
use Rattle.command_line.specs.declared.tool_fault.ToolFault.TheVariants as tool
use Rattle.command_line.specs.Inputs.{has_standard, is_standard}
use Rattle.archive_commands.specs.declared.limits.TheConstants.{ROUNDS}
use Rattle.archive_commands.specs.declared.put.PutArguments.{PutArguments}
use Rattle.archive_commands.specs.Locating.{Locates}
use Rattle.archive_commands.specs.Faults.{run_fault}
use Rattle.archive_commands.specs.Labels.{are_several, label_of}
use Rattle.archive_commands.specs.Lines.{sent_line}
use Rattle.archive_arguments.specs.Lines.{LineFails}
use Rattle.archive_commands.specs.PutFiles.{AreRead, FailsToRead, HasRead, IsUnread, PutsFiles, PutsText, SaysWhole, SendsEach, SendsOne, status_among}
use Rattle.archive_commands.specs.PutRan.{PutRan}
use Rattle.archive_commands.specs.Syncing.{first_of}
use Rattle.archive_commands.proofs.Sending.{put_counted}

-- ---- reading

module _ (bytes_of : List ℕ → Option (List ℕ)) where
  -- one more file
  read_more : (sources : List Source) (source : Source) (texts : List (List ℕ)) (text : List ℕ) (given mid left : Option (List ℕ)) → AreRead bytes_of sources texts given mid → HasRead bytes_of source text mid left
      → AreRead bytes_of (sources ++ source ∷ []) (texts ++ text ∷ []) given left
  read_more [] source [] text given mid left are read = (left, subst (λ (g : Option (List ℕ)). HasRead bytes_of source text g left) are read, refl)
  read_more [] source (t ∷ texts) text given mid left are read = absurd are
  read_more (s ∷ sources) source [] text given mid left are read = absurd are
  read_more (s ∷ sources) source (t ∷ texts) text given mid left are read = (are.0, are.1, read_more sources source texts text are.0 mid left are.2 read)

  -- the same of a loop over the files
  pub one_more_read : {T : Type 0} (items : T → List ℕ) (sources : List Source) (i : ℕ) (source : Source) (texts after : List T) (text : T) (given mid left : Option (List ℕ)) → i < length sources → source ≡ get_or sources i source
      → AreRead bytes_of (take i sources) (map items texts) given mid → HasRead bytes_of source (items text) mid left → after ≡ texts ++ text ∷ []
      → AreRead bytes_of (take (i + 1) sources) (map items after) given left
  one_more_read {T} items sources i source texts after text given mid left inside is are read after-is =
      subst (λ (ts : List T). AreRead bytes_of (take (i + 1) sources) (map items ts) given left) (sym after-is)
      (subst (λ (ts : List (List ℕ)). AreRead bytes_of (take (i + 1) sources) ts given left) (sym (map-append items texts (text ∷ [])))
      (subst (λ (ss : List Source). AreRead bytes_of ss (map items texts ++ items text ∷ []) given left) (sym (take_more sources i source inside ∙ ap (λ (x : Source). take i sources ++ x ∷ []) (sym is)))
      (read_more (take i sources) source (map items texts) (items text) given mid left are read)))

  -- the file at an index is the first that was not read whole
  pub fails_at : (sources : List Source) (i : ℕ) (source : Source) (texts : List (List ℕ)) (given mid left : Option (List ℕ)) (status : ℕ) → i < length sources → source ≡ get_or sources i source
      → AreRead bytes_of (take i sources) texts given mid → IsUnread bytes_of source mid left status → FailsToRead bytes_of sources given left status
  fails_at sources i source texts given mid left status inside is are unread = record {
    front = take i sources;
    source = source;
    rest = drop (i + 1) sources;
    split = sym (take-append-drop i sources) ∙ ap (λ (ss : List Source). take i sources ++ ss) (drop_more sources i source inside)
        ∙ ap (λ (x : Source). take i sources ++ x ∷ drop (i + 1) sources) (sym is);
    texts = texts;
    mid = mid;
    read = are;
    unread = unread;
  }

  -- there was no memory for a file that was read
  pub read_lost : (source : Source) (bytes : List ℕ) (given left : Option (List ℕ)) (status : ℕ) → status ≡ 2 → HasRead bytes_of source bytes given left → IsUnread bytes_of source given left status
  read_lost Standard bytes given left status is read = (tool.Memory, is, tt, tt)
  read_lost (Named name) bytes given left status is read = (tool.Memory, is, tt, read.1)

-- a file among others than standard input
pub is_other : (sources : List Source) (i : ℕ) (source : Source) → i < length sources → source ≡ get_or sources i source → has_standard sources ≡ false → is_standard source ≡ false
is_other sources i source inside at none =
    false_from_ne_true (is_standard source) (λ is. true≢false (sym (list_any_at is_standard sources i source inside (ap is_standard (sym at) ∙ is)) ∙ none))

-- ---- sending a file whole

says_by : (label : List ℕ) (len : ℕ) (done : Result (Unit {0}) ToolFault) (old new : Option (List ℕ)) → OnOk done (Appends old new (label ++ sent_line len))
    → IfErr done (LineFails (label ++ sent_line len) old new) → SaysWhole label (Ok len) done old new
says_by label len (Ok done) old new said fails = said
says_by label len (Err e) old new said fails = fails

module _ (label mine : List ℕ) (to : Endpoint) (r : Result ℕ RunFault) (before after : Option (List Entry)) where
  -- the text was put, and that was said, or not
  pub text_put : (len : ℕ) (done : Result (Unit {0}) ToolFault) (old new : Option (List ℕ)) → r ≡ Ok len → PutsInRounds to mine ROUNDS r before after → OnOk done (Appends old new (label ++ sent_line len))
      → IfErr done (LineFails (label ++ sent_line len) old new) → PutsText label mine to done before after old new
  text_put len done old new is put said fails =
      let runs = subst (λ (x : Result ℕ RunFault). PutsInRounds to mine ROUNDS x before after) is put in
      record { sent = Ok len; put = runs; counted = put_counted to mine ROUNDS (Ok len) before after runs; said = says_by label len done old new said fails }

  -- it was not put
  pub text_unput : (why : RunFault) (e : ToolFault) (old : Option (List ℕ)) → r ≡ Err why → PutsInRounds to mine ROUNDS r before after → e ≡ run_fault why → PutsText label mine to (Err e) before after old old
  text_unput why e old is put e-is =
      record { sent = Err why; put = subst (λ (x : Result ℕ RunFault). PutsInRounds to mine ROUNDS x before after) is put; counted = tt; said = (e-is, refl) }

-- ---- the statuses

-- by whether the first one is 0
first_of_first : (ok : Bool) (status x late : ℕ) → (status == 0) ≡ ok → first_of status (first_of x late) ≡ first_of (first_of status x) late
first_of_first true status x late is = subst (λ (b : Bool). (if b then first_of x late else status) ≡ first_of (if b then x else status) late) (sym is) refl
first_of_first false status x late is =
    subst (λ (b : Bool). (if b then first_of x late else status) ≡ first_of (if b then x else status) late) (sym is) (subst (λ (b : Bool). status ≡ (if b then late else status)) (sym is) refl)

first_of_none : (ok : Bool) (status : ℕ) → (status == 0) ≡ ok → first_of status 0 ≡ status
first_of_none true status is = subst (λ (b : Bool). (if b then 0 else status) ≡ status) (sym is) (sym (eqb-true status 0 is))
first_of_none false status is = subst (λ (b : Bool). (if b then 0 else status) ≡ status) (sym is) refl

pick_by : (P : ℕ → Type 0) (b : Bool) (x y : ℕ) → P x → P y → P (if b then x else y)
pick_by P true x y p q = p
pick_by P false x y p q = q

-- what holds for both statuses holds for that of the first fault
pick : (P : ℕ → Type 0) (status next : ℕ) → P status → P next → P (first_of status next)
pick P status next p q = pick_by P (status == 0) next status q p

pick_among : (P : ℕ → Type 0) (several : Bool) (one : ℕ) → P 4 → P one → P (status_among several one)
pick_among P several one p q = pick_by P (several && (one == 3)) 4 one p q

pub no_usage_now : (several : Bool) (status one among now : ℕ) → among ≡ status_among several one → now ≡ first_of status among → status ≢ 1 → one ≢ 1 → now ≢ 1
no_usage_now several status one among now among-is now-is p q =
    let P : ℕ → Type 0 = λ (n : ℕ). n ≢ 1 in subst P (sym now-is) (pick P status among p (subst P (sym among-is) (pick_among P several one (λ e. omega (arith, e)) q)))

pub few_now : (several : Bool) (status one among now : ℕ) → among ≡ status_among several one → now ≡ first_of status among → status ≤ 4 → one ≤ 4 → now ≤ 4
few_now several status one among now among-is now-is p q =
    let P : ℕ → Type 0 = λ (n : ℕ). n ≤ 4 in subst P (sym now-is) (pick P status among p (subst P (sym among-is) (pick_among P several one (omega arith) q)))

not_three : (b : Bool) (one : ℕ) → (one == 3) ≡ b → (if b then 4 else one) ≢ 3
not_three true one is = λ e. omega (arith, e)
not_three false one is = eqb-false one 3 is

readable_among : (several : Bool) (one : ℕ) → several ≡ true → status_among several one ≢ 3
readable_among several one is = subst (λ (b : Bool). status_among b one ≢ 3) (sym is) (not_three (one == 3) one refl)

pub readable_now : (several : Bool) (status one among now : ℕ) → among ≡ status_among several one → now ≡ first_of status among → (several ≡ true → status ≢ 3) → several ≡ true → now ≢ 3
readable_now several status one among now among-is now-is p is =
    let P : ℕ → Type 0 = λ (n : ℕ). n ≢ 3 in subst P (sym now-is) (pick P status among (p is) (subst P (sym among-is) (readable_among several one is)))

zero_by : (b : Bool) (status next : ℕ) → (status == 0) ≡ b → (if b then next else status) ≡ 0 → (status ≡ 0) × (next ≡ 0)
zero_by true status next is zero = (eqb-true status 0 is, zero)
zero_by false status next is zero = absurd (eqb-false status 0 is zero)

-- no fault came so far, and none of this file
pub zero_now : (several : Bool) (status one among now : ℕ) → among ≡ status_among several one → now ≡ first_of status among → now ≡ 0 → (status ≡ 0) × (one ≡ 0)
zero_now several status one among now among-is now-is zero =
    let both = zero_by (status == 0) status among refl (sym now-is ∙ zero) in
    (both.0, pick_among (λ (n : ℕ). n ≡ 0 → one ≡ 0) several one (λ e. absurd (omega (arith, e))) (λ e. e) (sym among-is ∙ both.1))

-- the status of the only file
pub only_now : (several : Bool) (status one among now : ℕ) → among ≡ status_among several one → now ≡ first_of status among → several ≡ false → status ≡ 0 → now ≡ one
only_now several status one among now among-is now-is is zero =
    now-is ∙ ap (λ (n : ℕ). first_of n among) zero ∙ among-is ∙ ap (λ (b : Bool). status_among b one) is

pub first_index : (sources : List Source) (several : Bool) (i : ℕ) → i < length sources → several ≡ are_several sources → several ≡ false → i ≡ 0
first_index sources several i inside is single = omega (arith, inside, ltb-false 1 (length sources) (sym is ∙ single))

-- ---- sending each file

module _ (better several : Bool) (to : Endpoint) (sources : List Source) (texts : List (List ℕ)) (before : Option (List Entry)) (old : Option (List ℕ)) where
  -- What was done so far, with this status, leads from all files to those that are left.
  abbrev pub Leads : List Source → List (List ℕ) → (status : ℕ) → Option (List Entry) → Option (List ℕ) → Type 0
  Leads rest left status mid between =
      (late : ℕ) (after : Option (List Entry)) (new : Option (List ℕ)) → SendsEach better several to rest left late mid after between new
      → SendsEach better several to sources texts (first_of status late) before after old new

  pub leads_none : Leads sources texts 0 before old
  leads_none late after new sends = sends

  -- one more file
  pub leads_more : (source : Source) (rest : List Source) (text : List ℕ) (left : List (List ℕ)) (status one : ℕ) (mid next : Option (List Entry)) (between said : Option (List ℕ))
      → Leads (source ∷ rest) (text ∷ left) status mid between → SendsOne better (label_of several source) text to one mid next between said
      → Leads rest left (first_of status (status_among several one)) next said
  leads_more source rest text left status one mid next between said leads sent late after new sends =
      subst (λ (n : ℕ). SendsEach better several to sources texts n before after old new) (first_of_first (status == 0) status (status_among several one) late refl)
      (leads (first_of (status_among several one) late) after new
      (record { one = one; late = late; mid = next; between = said; first = sent; later = sends; status_is = refl }))

  -- the same of a loop over the files
  pub leads_next : {T : Type 0} (items : T → List ℕ) (i : ℕ) (source : Source) (left rest : List T) (text : T) (status one among now : ℕ) (mid next : Option (List Entry)) (between said : Option (List ℕ))
      → i < length sources → source ≡ get_or sources i source → left ≡ text ∷ rest → among ≡ status_among several one → now ≡ first_of status among
      → Leads (drop i sources) (map items left) status mid between → SendsOne better (label_of several source) (items text) to one mid next between said
      → Leads (drop (i + 1) sources) (map items rest) now next said
  leads_next {T} items i source left rest text status one among now mid next between said inside is left-is among-is now-is leads sent =
      subst (λ (n : ℕ). Leads (drop (i + 1) sources) (map items rest) n next said) (sym (now-is ∙ ap (λ (n : ℕ). first_of status n) among-is))
      (leads_more source (drop (i + 1) sources) (items text) (map items rest) status one mid next between said
      (subst (λ (ts : List T). Leads (source ∷ drop (i + 1) sources) (map items ts) status mid between) left-is
      (subst (λ (ss : List Source). Leads ss (map items left) status mid between) (drop_more sources i source inside ∙ ap (λ (x : Source). x ∷ drop (i + 1) sources) (sym is)) leads)) sent)

  none_left : (rest : List Source) (left : List (List ℕ)) (mid : Option (List Entry)) (between : Option (List ℕ)) → length rest ≡ 0 → SendsEach better several to rest left 0 mid mid between between
  none_left [] left mid between none = record { status_is = refl; unsent = refl; unsaid = refl }
  none_left (s ∷ rest) left mid between none = absurd (omega (arith, none))

  no_text_left : (rest : List Source) (left : List (List ℕ)) (mid : Option (List Entry)) (between : Option (List ℕ)) → length left ≡ 0 → SendsEach better several to rest left 0 mid mid between between
  no_text_left [] left mid between none = record { status_is = refl; unsent = refl; unsaid = refl }
  no_text_left (s ∷ rest) [] mid between none = record { status_is = refl; unsent = refl; unsaid = refl }
  no_text_left (s ∷ rest) (t ∷ left) mid between none = absurd (omega (arith, none))

  leads_all : (rest : List Source) (left : List (List ℕ)) (status : ℕ) (mid : Option (List Entry)) (between : Option (List ℕ)) → Leads rest left status mid between
      → SendsEach better several to rest left 0 mid mid between between → SendsEach better several to sources texts status before mid old between
  leads_all rest left status mid between leads none =
      subst (λ (n : ℕ). SendsEach better several to sources texts n before mid old between) (first_of_none (status == 0) status refl) (leads 0 mid between none)

  -- no file is left
  pub leads_end : (i : ℕ) (left : List (List ℕ)) (status : ℕ) (mid : Option (List Entry)) (between : Option (List ℕ)) → length sources ≤ i → Leads (drop i sources) left status mid between
      → SendsEach better several to sources texts status before mid old between
  leads_end i left status mid between end leads =
      leads_all (drop i sources) left status mid between leads (none_left (drop i sources) left mid between (omega (arith, end, length-drop i sources)))

  -- no text is left
  pub leads_out : {T : Type 0} (items : T → List ℕ) (i : ℕ) (left : List T) (status : ℕ) (mid : Option (List Entry)) (between : Option (List ℕ)) → length left ≡ 0 → Leads (drop i sources) (map items left) status mid between
      → SendsEach better several to sources texts status before mid old between
  leads_out {T} items i left status mid between none leads =
      leads_all (drop i sources) (map items left) status mid between leads (no_text_left (drop i sources) (map items left) mid between (length-map left items ∙ none))

-- ---- the whole

some_host : (host : ℕ) → Some host ≢ None
some_host host is = absurd cc

module _ (bytes_of : List ℕ → Option (List ℕ)) (host_of : List ℕ → Option (Option ℕ)) (Unread : Type 0) (arguments : PutArguments) (status : ℕ) (before after : Option (List Entry)) (given left old new : Option (List ℕ)) where
  -- what `put` did, if a host was found
  pub put_ran : (host : ℕ) → Locates host_of (string_bytes arguments.target.address) (Some host) → (has_standard arguments.sources.items ≡ false → Unread)
      → PutsFiles bytes_of arguments.better arguments.sources.items (record { host = host; port = arguments.target.port }) status before after given left old new → status ≢ 1 → status ≤ 4
      → PutRan bytes_of host_of Unread arguments status before after given left old new
  put_ran host is input puts usage few = record {
    found = Some host;
    located = is;
    bad = (λ one. absurd (usage one), λ none. absurd (some_host host none));
    nowhere = λ one. absurd (usage one);
    ended = λ other. (host, refl, puts);
    few = few;
    input = input;
  }
