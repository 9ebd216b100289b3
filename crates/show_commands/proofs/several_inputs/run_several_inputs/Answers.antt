use Rattle.std.proofs.Common.{◌≡◌, ◌∙◌, ℕ, true, false, List, [], Option, Some, IfSome, refl, sym, subst, true≢false}
use Rattle.command_line.specs.Inputs.{has_standard, knowns_of}
use Rattle.show_commands.specs.SeveralInputs.{FilesRan}
use Rattle.show_commands.specs.Saying.{SaysOfFiles}
use Rattle.show_commands.proofs.Said.{says_less}
use Rattle.show_commands.proofs.Sources.{knowns_read, knowns_without, ran_less}
use Rattle.show_commands.proofs.several_inputs.run_several_inputs.Goals as goal

pub returns-then-not-has_standard-clause-ran : goal.returns-then-not-has_standard-clause-ran
returns-then-not-has_standard-clause-ran g c =
    let bytes_of = g.S.FileSystem.bytes_of c.args.system.now in
    let sources = c.args.sources.now in
    let writes = g.C.SeveralInputsCommand.writes c.args.command.now in
    let prefix = g.C.SeveralInputsCommand.«prefix» c.args.command.now in
    let given = g.R.Read.remaining c.args.input.now in
    let old = g.W.Write.contents c.args.out.now in
    let new = g.W.Write.contents c.run_opened.new.out in
    let none : has_standard sources ≡ false = sym c.has_standard.ensures ∙ c.if-not-has_standard.true in (
      record { unread = λ is. refl; ended = λ is zero. absurd (true≢false (sym is ∙ none)) },
      subst (λ (ks : List (Option (List ℕ))). FilesRan (writes ks old new) (prefix ks old new) ks c.run_opened.result old new) (knowns_without bytes_of (Some []) given sources none) c.run_opened.ensures.ran,
    )

pub returns-in-Ok-clause-ran : goal.returns-in-Ok-clause-ran
returns-in-Ok-clause-ran g c =
    let bytes_of = g.S.FileSystem.bytes_of c.args.system.now in
    let sources = c.args.sources.now in
    let command = c.args.command.now in
    let given = g.R.Read.remaining c.args.input.now in
    let old = g.W.Write.contents c.args.out.now in
    let new = g.W.Write.contents c.run_opened-in-Ok.new.out in
    let bytes = c.deref.result.now in
    let more = knowns_of bytes_of (Some bytes) sources in
    let less = knowns_of bytes_of given sources in
    let some : has_standard sources ≡ true = sym c.has_standard.ensures ∙ c.if-not-has_standard.false in
    let same : IfSome given (λ (xs : List ℕ). bytes ≡ xs) =
    subst (λ (ys : List ℕ). IfSome given (λ (xs : List ℕ). ys ≡ xs)) (sym c.deref.ensures.value) c.in-Ok.ensures.bytes in
    let are = knowns_read bytes_of bytes given same sources in (
      record { unread = λ is. absurd (true≢false (sym some ∙ is)); ended = λ is zero. c.in-Ok.ensures.end },
      ran_less _ _ _ _ more less c.run_opened-in-Ok.result old new (g.met.C.SeveralInputsCommand.writes_less command more less old new are)
          (g.met.C.SeveralInputsCommand.prefix_less command more less old new are) are c.run_opened-in-Ok.ensures.ran,
    )

pub returns-then-not-has_standard-clause-said : goal.returns-then-not-has_standard-clause-said
returns-then-not-has_standard-clause-said g c =
    let bytes_of = g.S.FileSystem.bytes_of c.args.system.now in
    let sources = c.args.sources.now in
    let says = g.C.SeveralInputsCommand.says c.args.command.now in
    let before = c.args.errors.now in
    let after = c.run_opened.new.errors in
    let none : has_standard sources ≡ false = sym c.has_standard.ensures ∙ c.if-not-has_standard.true in
    λ zero. subst (λ (ks : List (Option (List ℕ))). SaysOfFiles says (after ≡ before) ks (g.E.Write.contents before) (g.E.Write.contents after))
    (knowns_without bytes_of (Some []) (g.R.Read.remaining c.args.input.now) sources none) (c.run_opened.ensures.said zero)

pub returns-in-Ok-clause-said : goal.returns-in-Ok-clause-said
returns-in-Ok-clause-said g c =
    let bytes_of = g.S.FileSystem.bytes_of c.args.system.now in
    let sources = c.args.sources.now in
    let given = g.R.Read.remaining c.args.input.now in
    let before = c.args.errors.now in
    let after = c.run_opened-in-Ok.new.errors in
    let bytes = c.deref.result.now in
    let same : IfSome given (λ (xs : List ℕ). bytes ≡ xs) =
    subst (λ (ys : List ℕ). IfSome given (λ (xs : List ℕ). ys ≡ xs)) (sym c.deref.ensures.value) c.in-Ok.ensures.bytes in
    λ zero. says_less (g.C.SeveralInputsCommand.says c.args.command.now) (after ≡ before) (knowns_of bytes_of (Some bytes) sources) (knowns_of bytes_of given sources)
    (g.E.Write.contents before) (g.E.Write.contents after) (knowns_read bytes_of bytes given same sources) (c.run_opened-in-Ok.ensures.said zero)
