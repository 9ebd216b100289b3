use Rattle.std.proofs.Common.{◌≡◌, true, false, ap, sym, ◌∙◌}
use Rattle.std.specs.List.{list_all}
use Rattle.std.specs.Char.{is_ascii_alphabetic}
use Rattle.tws_compare.proofs.Shown.{same_digits}
use Rattle.tws_compare.proofs.password.others_in.Goals as goal

pub returns-then-is_letters-clause-none : goal.returns-then-is_letters-clause-none
returns-then-is_letters-clause-none c = λ q fits four others is.
    let p = c.in_ok-password.password in
    let found = c.in_ok-password.ensures in
    let same = same_digits c.args.digits.now p q found.bytes fits found.four four found.digits is in
    let letters : list_all is_ascii_alphabetic p ≡ true = sym c.is_letters.ensures ∙ c.if-is_letters.true in
    let none : list_all is_ascii_alphabetic p ≡ false = ap (list_all is_ascii_alphabetic) same ∙ others in
    absurd cc
