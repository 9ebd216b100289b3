-- Lines that are printed piece by piece.
use Rattle.std.proofs.Common.{◌≡◌, ◌≢◌, ◌∙◌, refl, ℕ, List, [], ◌++◌, Option, Some, None, IfSome, Result, Ok, Err, OnOk, OnErr, is_ok, true, inl, inr, ap, subst, append_assoc}
use Rattle.std.proofs.lemmas.Fmt.{contents_after_writes}
use Rattle.std.specs.Fmt.{WritesText}
use Rattle.std.specs.Io.KnownBytes.{Appends}
use Rattle.byte_output.specs.Output.{AppendsPrefix}
use Rattle.byte_output.proofs.Sending.{first_alone, prefix_in_turn}
use Rattle.clap.specs.Words.{Text}
use Rattle.tws_file.specs.declared.file_fault.FileFault.{FileFault}
use Rattle.command_line.specs.declared.tool_fault.ToolFault.{ToolFault}
use Rattle.command_line.specs.declared.tool_fault.ToolFault.TheVariants.{Read, Write, Unreadable, Memory, Socket, Transfer}
use Rattle.command_line.specs.Printing.{Printed, Prints, fault_text, plain_line, report_lines}

-- what was written of a text that begins with another one is a proper prefix of it
module _ (old mid new : Option (List ℕ)) (start name between words written : List ℕ) (written-is : written ≡ between) where
  -- before the rest
  pub cut_early : AppendsPrefix old mid (start ++ name) → AppendsPrefix old mid (start ++ (name ++ (between ++ words)))
  cut_early p =
      subst (λ (x : List ℕ). AppendsPrefix old mid x) (append_assoc start name (between ++ words))
      (first_alone old mid mid (start ++ name) (between ++ words) (start ++ name) refl p)

  -- within what follows it
  pub cut_between : Appends old mid (start ++ name) → AppendsPrefix mid new written → AppendsPrefix old new (start ++ (name ++ (between ++ words)))
  cut_between p q =
      subst (λ (x : List ℕ). AppendsPrefix old new x) (append_assoc start name (between ++ words))
      (prefix_in_turn old mid new (start ++ name) (between ++ words) (start ++ name) refl p (first_alone mid new new between words written written-is q))

  -- after that
  pub cut_late : (last : Option (List ℕ)) → Appends old mid (start ++ name) → Appends mid last written → AppendsPrefix last new words → AppendsPrefix old new (start ++ (name ++ (between ++ words)))
  cut_late last p q r =
      subst (λ (x : List ℕ). AppendsPrefix old new x) (append_assoc start name (between ++ words))
      (prefix_in_turn old mid new (start ++ name) (between ++ words) (start ++ name) refl p (prefix_in_turn mid last new between words written written-is q r))

-- what holds if there is no error, and there is none
pub at_ok : {T E P : Type 0} (r : Result T E) → is_ok r ≡ true → OnOk r P → P
at_ok (Ok x) is p = p
at_ok (Err e) is p = absurd cc

-- a text was printed, by the result of writing it
pub prints_by : {T E : Type 0} (r : Result T E) (text : List ℕ) (old new : Option (List ℕ)) → OnOk r (Appends old new text) → OnErr r (AppendsPrefix old new text) → Prints text old new
prints_by (Ok x) text old new wrote cut = inl wrote
prints_by (Err e) text old new wrote cut = inr cut

-- the line of a value's text was printed
module _ {W : Type 0} (took : W → List ℕ → W → Type 0) (contents : W → List ℕ) (appends : (w : W) (bs : List ℕ) (v : W) → took w bs v → contents v ≡ contents w ++ bs) where
  pub prints_value : (empty full : W) (shown : Option (List ℕ)) (line : List ℕ → List ℕ) (text : List ℕ) (old new : Option (List ℕ)) → contents empty ≡ [] → text ≡ contents full
      → WritesText took empty shown full → Prints (line text) old new → IfSome shown (λ (bytes : List ℕ). Prints (line bytes) old new)
  prints_value empty full None line text old new none is wrote prints = tt
  prints_value empty full (Some bytes) line text old new none is wrote prints =
      let same : text ≡ bytes = is ∙ contents_after_writes took contents appends empty bytes full wrote ∙ ap (λ (start : List ℕ). start ++ bytes) none in
      subst (λ (b : List ℕ). Prints (line b) old new) same prints

-- the only line about a fault that is not an input's
pub one_line : (fault : ToolFault) (names : List Text) (old new : Option (List ℕ)) → ((index : ℕ) (why : FileFault) → fault ≢ Unreadable index why) → Prints (plain_line (fault_text fault)) old new → Printed (report_lines fault names) old new
one_line Read names old new other prints = (new, prints, refl)
one_line Write names old new other prints = (new, prints, refl)
one_line (Unreadable index why) names old new other prints = absurd (other index why refl)
one_line Memory names old new other prints = (new, prints, refl)
one_line Socket names old new other prints = (new, prints, refl)
one_line (Transfer why) names old new other prints = (new, prints, refl)
