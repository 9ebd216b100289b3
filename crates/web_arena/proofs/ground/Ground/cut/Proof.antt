-- `cut` makes two of one. Assumes `Logic`.
use Rattle.std.proofs.Common.{◌≡◌, ◌+◌, ◌-◌, ◌%◌, ◌≤◌, List, [], ◌∷◌, ◌++◌, refl, ap, ◌∙◌, arith, w64}
use mir.Syntax.{Fn}
use mir.Val.{Val, vint, vptr}
use base.Logic.{SProp, emp, never, id⊢}
use prog.Wp.{Env, WpFn}
use contract.Monad.{fact, fact_i}
use contract.Running.{tables}
use types.Kit.{‵, raw, ◌⊛◌, prop, at_ret, ◌$◌, ◌∵◌, !, qed, by, move, drop, use0, use1, use2, split, regoal, fsplit, fjoin}
use types.Part.{whole, sub, agg}
use types.Run.{stop, fld, bin, of_opd, no_more, and_then, first, blocks, exec, returns, enter}
use types.ByLocal.{alloc_all, pass_all, free_all, look_at, get, get_in, sets, sets_last, is, env}
use denote.RattleType.{owns}
use denote.RawPtr.{Ptr, block_ptr, in_a_block}
use denote.Signature.{types_at}
use denote.Steps.{nothing, heard}
use denote.Struct.Tuple.{Tuple}
use denote.Triple.Entry.{alive}
use denote.Triple.Walked.{Stays, stay_dropped, walk_of, Goes-dropped}
use Rattle.core.proofs.alloc.Calls.{Goes-blank}
use Rattle.core.proofs.alloc.Shapes.{after}
use Rattle.std_alloc.proofs.Pairs.{pair_of, pair_val}
use Rattle.std.proofs.raw_atomic.Walks.{proved_at, leaves}
use Rattle.linked_list_allocator.proofs.Values.{list_val, list_own, list_told, list_made}
use Rattle.linked_list_allocator.proofs.Walks.{slot_at}
use Rattle.linked_list_allocator.proofs.Nodes.{cuts, resized}
use Rattle.web_arena.specs.Ground.{empty_at}
use Rattle.web_arena.specs.contracts.ground.Ground as ground
use Rattle.web_arena.specs.contracts.ground.Ground.cut as own
use Rattle.web_arena.proofs.ground.Ground.cut.Statement.{statement}
use Rattle.web_arena.proofs.ground.Ground.cut.Code as code

abbrev stayed : Stays own.ended.signature.params own.ended.kept
stayed = (stay_dropped (slot_at 0 own.ended.signature.params) own.ended.kept.0, (stay_dropped (slot_at 1 own.ended.signature.params) own.ended.kept.1.0, tt))

pub cut_spec : {M : Type 1} → statement M
cut_spec 𝓤 𝓛 𝓜 𝓡 wired =
    let T = own.ended in
    let c = own.clauses 𝓛 𝓜.mem 𝓡.returns in
    let fn : Fn = code.function in
    let C = (tables 𝓤 𝓛.H 𝓜 𝓡 𝓡.env).C in
    let Λ = (tables 𝓤 𝓛.H 𝓜 𝓡 𝓡.env).Λ in
    proved_at 𝓛 T stayed c 𝓜 𝓡 (Goes-blank 𝓛 0 (slot_at 0 T.signature.params) T.kept.0 (λ κs x f. tt), (Goes-dropped 𝓛 0 (slot_at 1 T.signature.params) T.kept.1.0 (λ κs x f. refl), tt))
    own.Key.name fn (code.unfolded 𝓤 𝓛.H 𝓜 𝓡 wired) (λ z are.
    let Post : Val → SProp 𝓤 = (walk_of 𝓛 T stayed c).post z in
    let a = z.0.3 in
    let vss = z.0.4 in
    let at = a.0.at in
    let n = a.0.size in
    let m = a.1.0 in
    let fields = (list_told at vss.0 are.0.0).0 in
    let Asked : Type 0 = (m ≤ n) × (m % 16 ≡ 0) in
    qed 𝓛 ((raw (alive 𝓛 T.signature z.0.0 z.0.1) ⊛ ‵ (owns (types_at T.signature.params z.0.0) a vss)) ∷ raw (fact 𝓤 Asked) ∷ []) ∵
    move ! (1 ∷ []) $ heard ! Asked (λ asked. split ! $ move ! (1 ∷ []) $ fsplit ! $ fsplit ! $ drop ! $
    in_a_block ! at (λ p. empty_at p n) (id⊢ 𝓤 (never 𝓤)) (λ b o lies. move ! (1 ∷ []) $ drop ! $
    use1 𝓛 (‵ (empty_at (block_ptr b o) (m + (n - m)))) (resized 𝓛 b o n (m + (n - m)) (omega arith)) $
    use1 𝓛 (‵ (empty_at (block_ptr b o) m) ⊛ ‵ (empty_at (block_ptr b (o + m)) (n - m))) (cuts 𝓛 b o m (n - m) asked.1) $ split ! $
    regoal ! (λ (us : List Val). prop (WpFn 𝓤 𝓛.H C Λ fn us Post)) (λ i. (fields ∙ ap (λ (p : Ptr). list_val p ∷ []) lies) i ++ (are.1.0.0 i ++ [])) refl $
    enter ! C Λ fn (list_val (block_ptr b o) ∷ vint w64 m ∷ []) Post $
    alloc_all ! (λ l. pass_all ! refl ((tt, (tt, tt)), ((tt, record { fits = are.1.0.1 }), tt)) $ let E : Env 𝓤 𝓛.H = env fn.locals l in
    sets ! (of_opd ! (get_in ! (fld ! refl (stop !)) (sub ! 0 refl (whole !)))) refl (tt, tt) $
    first ! $ blocks ! $
    sets_last ! (is ! (bin ! (get ! refl) (get ! refl) tt) (ap (vptr b) (omega arith))) refl (tt, tt) $
    exec ! C Λ E (after 2 fn.body) (at_ret E Post) $
    sets ! (of_opd ! (get ! refl)) refl (tt, tt) $
    sets ! (agg ! (and_then ! (get ! refl) (no_more !))) refl (tt, (tt, tt)) $
    sets ! (agg ! (and_then ! (get ! refl) (no_more !))) refl (tt, (tt, tt)) $
    sets ! (agg ! (and_then ! (get ! refl) (and_then ! (get ! refl) (no_more !)))) refl (tt, ((tt, tt), ((tt, tt), tt))) $
    returns ! (look_at ! 0 refl) $ free_all ! refl $
    let p : Ptr = block_ptr b o in
    let q : Ptr = block_ptr b (o + m) in
    let front : (ground.the_row).Denot = record { at = p; size = m } in
    let rest : (ground.the_row).Denot = record { at = q; size = n - m } in
    let Sizes : Type 0 = (m ≡ m) × (n - m ≡ n - m) in
    use0 𝓛 (‵ (list_own p (list_val p ∷ []))) (list_made 𝓛 p tt) $ fjoin ! $ move ! (1 ∷ []) $
    use0 𝓛 (‵ (list_own q (list_val q ∷ []))) (list_made 𝓛 q tt) $ fjoin ! $ move ! (1 ∷ 0 ∷ []) $
    use2 𝓛 (‵ ((Tuple (ground.the_row ∷ ground.the_row ∷ [])).own_val (front, rest) (pair_val (list_val p) (list_val q) ∷ [])))
    (pair_of 𝓛 ground.the_row ground.the_row front rest (list_val p) (list_val q)) $
    use0 𝓛 (raw (fact 𝓤 Sizes)) (fact_i 𝓤 Sizes (emp 𝓤) (refl, refl)) $ nothing ! $ nothing ! $ fjoin ! $ nothing ! $ fjoin ! $ move ! (3 ∷ 0 ∷ 2 ∷ 1 ∷ []) $
    by ! (leaves 𝓛 T stayed c z (pair_val (list_val p) (list_val q)) (front, rest) (tt, (tt, tt)) (tt, (tt, tt)))))))
