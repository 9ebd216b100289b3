use Rattle.std.proofs.Common.{ap, sym, ◌∙◌}
use Rattle.std.specs.Ordering.{nat_cmp}
use Rattle.std.specs.Cmp.Lexicographic.{slice_cmp}
use Rattle.tws_file.specs.Text.{solution, body_of}
use Rattle.tws_file.proofs.Comparing.{by_the_rest, by_the_first}
use Rattle.tws_file.proofs.solution.Solution.cmp_body.Goals as goal

pub returns-in-Equal : goal.returns-in-Equal
returns-in-Equal g c =
    let fields = c.fields.result in
    let head = c.split_at.result.0.now in
    let tail = c.split_at.result.1.now in
    let same = c.fields.ensures.size ∙ sym c.split_at.ensures.front_len in
    let equal = sym (ap (λ xs. slice_cmp nat_cmp xs head) c.as_slice.ensures) ∙ (sym c.cmp.ensures ∙ c.in-Equal.is) in
    let rest = c.cmp-in-Equal.ensures ∙ ap (λ xs. slice_cmp nat_cmp xs tail) (c.as_slice-in-Equal.ensures.list ∙ ap (λ s. s.moves) c.self.view_is) in
    by_the_rest fields c.args.self.now.moves (body_of (solution c.args.self.now)) head tail c.args.bytes.now c.fields.ensures.bytes (sym c.split_at.ensures.by_index.0) same
    c.cmp-in-Equal.result equal rest

pub returns-in_default : goal.returns-in_default
returns-in_default g c =
    let fields = c.fields.result in
    let head = c.split_at.result.0.now in
    let tail = c.split_at.result.1.now in
    let same = c.fields.ensures.size ∙ sym c.split_at.ensures.front_len in
    let is = c.cmp.ensures ∙ ap (λ xs. slice_cmp nat_cmp xs head) c.as_slice.ensures in
    by_the_first fields c.args.self.now.moves (body_of (solution c.args.self.now)) head tail c.args.bytes.now c.fields.ensures.bytes (sym c.split_at.ensures.by_index.0) same
    c.cmp.result c.in_default.not-Equal is
