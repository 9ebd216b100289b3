-- What was printed of a fault.
use Rattle.std.proofs.Common.{◌≡◌, ◌≢◌, ◌⊎◌, ◌==◌, inl, inr, ap, ℕ, Bool, true, false, List, [], ◌∷◌, length, Option, Some, None, refl, sym, subst, ◌<◌, ◌+◌, ◌++◌, ◌∙◌, take, get_or, drop, take-append-drop}
use Rattle.std.proofs.lemmas.List.{drop_more, take_more}
use Rattle.byte_output.specs.Output.{AppendsPrefix}
use Rattle.byte_output.specs.Printable.{shown}
use Rattle.tws_file.specs.declared.file_fault.FileFault.{FileFault}
use Rattle.command_line.specs.declared.source.Source.{Source}
use Rattle.command_line.specs.declared.tool_fault.ToolFault.{ToolFault}
use Rattle.command_line.specs.declared.tool_fault.ToolFault.TheVariants.{Read, Write, Unreadable, Memory, Socket, Transfer}
use Rattle.command_line.specs.Saying.{Says}
use Rattle.command_line.specs.Printing.{Printed, Prints, ReportsFile, fault_text, line_about, report_lines}
use Rattle.archive_commands.specs.declared.reached.Reached.{Reached}
use Rattle.archive_commands.specs.Labels.{are_several}
use Rattle.archive_commands.specs.PutFiles.{AreRead, NotesStopping}
use Rattle.archive_commands.specs.PutSaid.{PutReports}
use Rattle.archive_commands.specs.Reports.{ReportsEach, ReportsFirst, ReportsGet, ReportsOne, ReportsUnread, SaysThen, ReportsReceived, file_fault_lines, name_of, no_answer_line, reached_line, reached_lines, refusal_lines, server_says}

module _ (old new : Option (List ℕ)) where
  -- a text of the server that is not empty
  pub refusal_printed : (refusal text : List ℕ) → false ≡ (length refusal == 0) → text ≡ refusal → Prints (line_about server_says (shown text)) old new → Printed (refusal_lines refusal) old new
  refusal_printed [] text some is prints = absurd cc
  refusal_printed (byte ∷ bytes) text some is prints = (new, subst (λ (t : List ℕ). Prints (line_about server_says (shown t)) old new) is prints, refl)

  -- where a transfer stopped that was not answered
  pub unanswered_printed : (reached : Option Reached) (r : Reached) → reached ≡ Some r → r.answered ≡ false → Prints (no_answer_line r.server) old new → Printed (reached_lines reached) old new
  unanswered_printed reached r is none prints =
      subst (λ (o : Option Reached). Printed (reached_lines o) old new) (sym is) (new, subst (λ (b : Bool). Prints (reached_line b r.server r.block r.blocks) old new) (sym none) prints, refl)

  -- a fault of a file that is one of several, and was read
  pub named_printed : (fault : ToolFault) (source : Source) (name : List ℕ) → name ≡ name_of source → ((index : ℕ) (why : FileFault) → fault ≢ Unreadable index why) → Prints (line_about name (fault_text fault)) old new
      → Printed (file_fault_lines true source fault) old new
  named_printed fault source name is other prints = by fault other (subst (λ (n : List ℕ). Prints (line_about n (fault_text fault)) old new) is prints)
    where
      by : (fault : ToolFault) → ((index : ℕ) (why : FileFault) → fault ≢ Unreadable index why) → Prints (line_about (name_of source) (fault_text fault)) old new → Printed (file_fault_lines true source fault) old new
      by Read other prints = (new, prints, refl)
      by Write other prints = (new, prints, refl)
      by (Unreadable index why) other prints = absurd (other index why refl)
      by Memory other prints = (new, prints, refl)
      by Socket other prints = (new, prints, refl)
      by (Transfer why) other prints = (new, prints, refl)

-- why a collection was not fetched, or its file not written
pub get_reported : {C : Type 0} (cause : Option C) (fault : ToolFault) (file address refusal : List ℕ) (reached : Option Reached) (old new : Option (List ℕ)) → ReportsGet cause fault file address refusal reached old new
    → ReportsFile fault file old new ⊎ ReportsReceived fault address refusal reached old new
get_reported (Some said) fault file address refusal reached old new reports = inl reports
get_reported None fault file address refusal reached old new reports = inr reports

-- ---- of files that were sent one after the other

each_snoc : (several : Bool) (address : List ℕ) (sources : List Source) (source : Source) (old mid new : Option (List ℕ)) → ReportsEach several address sources old mid
    → (status : ℕ) × (refusal : List ℕ) × (reached : Option Reached) × ReportsOne several source address status refusal reached mid new → ReportsEach several address (sources ++ source ∷ []) old new
each_snoc several address [] source old mid new each one =
    (new, subst (λ (o : Option (List ℕ)). (status : ℕ) × (refusal : List ℕ) × (reached : Option Reached) × ReportsOne several source address status refusal reached o new) each one, refl)
each_snoc several address (s ∷ sources) source old mid new each one = (each.0, each.1, each_snoc several address sources source each.0 mid new each.2 one)

-- one more
pub each_more : (several : Bool) (address : List ℕ) (sources : List Source) (i : ℕ) (source : Source) (old mid new : Option (List ℕ)) (status : ℕ) (refusal : List ℕ) (reached : Option Reached) → i < length sources → source ≡ get_or sources i source
    → ReportsEach several address (take i sources) old mid → ReportsOne several source address status refusal reached mid new → ReportsEach several address (take (i + 1) sources) old new
each_more several address sources i source old mid new status refusal reached inside is each one =
    subst (λ (ss : List Source). ReportsEach several address ss old new) (sym (take_more sources i source inside ∙ ap (λ (x : Source). take i sources ++ x ∷ []) (sym is)))
    (each_snoc several address (take i sources) source old mid new each (status, refusal, reached, one))

-- ---- the whole of `put`

-- the file at an index is the first that was not read
pub reports_at : (sources : List Source) (several : Bool) (i : ℕ) (source : Source) (status : ℕ) (old mid new : Option (List ℕ)) → several ≡ are_several sources → i < length sources → source ≡ get_or sources i source → mid ≡ old
    → ReportsUnread several source status mid new → ReportsFirst sources status old new
reports_at sources several i source status old mid new several-is inside is same reports = record {
  front = take i sources;
  source = source;
  rest = drop (i + 1) sources;
  split = sym (take-append-drop i sources) ∙ ap (λ (ss : List Source). take i sources ++ ss) (drop_more sources i source inside)
      ∙ ap (λ (x : Source). take i sources ++ x ∷ drop (i + 1) sources) (sym is);
  reports = subst (λ (b : Bool). ReportsUnread b source status old new) several-is (subst (λ (o : Option (List ℕ)). ReportsUnread several source status o new) same reports);
}

says_as : {P Q : Type 0} (text : List ℕ) (old new : Option (List ℕ)) → (P → Q) → Says text P old new → Says text Q old new
says_as [] old new f says = f says
says_as (code ∷ text) old new f says = says

-- all was said, and then each file reported
pub said_then : {E : Type 0} (contents : E → Option (List ℕ)) (note : List ℕ) (sources : List Source) (address : List ℕ) (old mid : E) (new : Option (List ℕ)) → Says note (mid ≡ old) (contents old) (contents mid)
    → (count : ℕ) × ReportsEach (are_several sources) address (take count sources) (contents mid) new → SaysThen note sources address (contents old) new
said_then contents note sources address old mid new says each = inl (contents mid, says_as note (contents old) (contents mid) (λ same. ap contents same) says, each)

-- it could not be said
pub unsaid_then : (note : List ℕ) (sources : List Source) (address : List ℕ) (fault : ToolFault) (old mid new : Option (List ℕ)) → fault ≡ Write → AppendsPrefix old mid note → Printed (report_lines fault []) mid new → SaysThen note sources address old new
unsaid_then note sources address fault old mid new is cut printed = inr (mid, cut, subst (λ (f : ToolFault). Printed (report_lines f []) mid new) is printed)

-- these are the sources of `put`, by another name, and nothing was printed before
module _ (bytes_of : List ℕ → Option (List ℕ)) (sources given_sources : List Source) (given : Option (List ℕ)) (address : List ℕ) (status : ℕ) (old mid new : Option (List ℕ)) (same : sources ≡ given_sources) where
  pub put_reports : (texts : List (List ℕ)) (left : Option (List ℕ)) (note said : List ℕ) → AreRead bytes_of sources texts given left → NotesStopping (are_several sources) sources texts note → said ≡ note → mid ≡ old → SaysThen said sources address mid new
      → PutReports bytes_of given_sources given address status old new
  put_reports texts left note said read notes said-is silent says =
      subst (λ (ss : List Source). PutReports bytes_of ss given address status old new) same
      (inr (inr (texts, left, read, (note, notes, subst (λ (text : List ℕ). SaysThen text sources address old new) said-is (subst (λ (o : Option (List ℕ)). SaysThen said sources address o new) silent says)))))

  pub put_unread : ReportsFirst sources status old new → PutReports bytes_of given_sources given address status old new
  put_unread first = inr (inl (subst (λ (ss : List Source). ReportsFirst ss status old new) same first))
