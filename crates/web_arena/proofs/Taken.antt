-- The two cases of what `take` gave, and ground as room for a type. Assumes `Logic`.
use Rattle.std.proofs.Common.{◌≡◌, ℕ, ◌%◌, ◌^◌, ◌<◌, ◌≤◌, List, [], ◌∷◌, ◌++◌, IfSome, None, Some, sym, ap, subst, ◌∙◌, arith}
use seplogic.Ra.Ura.{Ura}
use mir.Syntax.{Ty, Width, w8, w16, w32, w64, w128}
use mir.Val.{Val, vcons, vnil, of_list, bytes}
use base.Logic.{ent, sep, never, id⊢}
use base.Fml.{ftrue, fwand, froom}
use prog.Memory.{size, capped}
use prog.Align.{Dv, align_w, align-bytes}
use prog.Capped.{capped_is, capped_small}
use types.Logic.{Logic, sem}
use types.Kit.{Item, Goal, Seq, ‵, ◌⊛◌, ◌$◌, ◌∵◌, !, qed, move, drop, use1, split, frame, fsplit, fpick, feq_l, done}
use types.Match.{live}
use denote.RattleType.{RattleType}
use denote.RawPtr.{block_ptr, in_a_block}
use denote.Shadow.{pure_l}
use denote.Steps.{only, nothing}
use Rattle.core.specs.contracts.option.Option as option
use Rattle.web_arena.specs.Ground.{empty_at}
use Rattle.web_arena.specs.contracts.ground.Ground as ground
use Rattle.linked_list_allocator.proofs.Values.{list_val, list_own, list_told}
use Rattle.linked_list_allocator.proofs.Nodes.{retypes}

-- what `take` returns, and what it says of that for n bytes at multiples of a
abbrev pub Taken : RattleType
Taken = option.the_row ground.the_row

abbrev pub Told : ℕ → ℕ → Taken.Denot → Type 0
Told n a x = IfSome x (λ g. (n ≤ g.size) × (g.size % 16 ≡ 0) × (n < 2 ^ 63) × (a ≤ 16))

every_width : (w : Width) → Dv (bytes w) 16
every_width w8 = tt
every_width w16 = tt
every_width w32 = tt
every_width w64 = tt
every_width w128 = tt

-- m bytes are room for a type of n bytes, and nothing is owed for giving it back
pub hands_out : {M : Type 1} {𝓤 : Ura M} (𝓛 : Logic 𝓤) (τ : Ty) (b o m n : ℕ) → capped (size τ) ≡ n → n ≤ m → m % 16 ≡ 0 → n < 2 ^ 63
    → ent 𝓤 (sem 𝓛 (empty_at (block_ptr b o) m)) (sep 𝓤 (𝓛.H.room τ b o) (sem 𝓛 ftrue))
hands_out {𝓤 = 𝓤} 𝓛 τ b o m n sized enough whole small =
    let short : size τ < 2 ^ 63 = capped_small (size τ) (omega arith) in
    let same : n ≡ size τ = sym sized ∙ capped_is (size τ) (omega arith) in
    let holds : size τ ≤ m = omega arith in
    let divides : Dv _ 16 = subst (λ (k : ℕ). Dv k 16) (sym (align-bytes τ)) (every_width (align_w τ)) in
    qed 𝓛 (‵ (empty_at (block_ptr b o) m) ∷ []) ∵
    use1 𝓛 (‵ (froom τ b o) ⊛ ‵ (fwand (froom τ b o) (empty_at (block_ptr b o) m))) (retypes 𝓛 b τ o m whole holds divides) $
    split ! $ frame ! $ drop ! $ nothing ! $ done !

module _ {M : Type 1} {𝓤 : Ura M} {𝓛 : Logic 𝓤} {K : Type 0} {Γ : List (Item 𝓤)} {G : Goal 𝓤 𝓛.H} where
  pub taken : K → (n a : ℕ) (x : Taken.Denot) (v : Val) → Told n a x
      → ((b o m : ℕ) → n ≤ m → m % 16 ≡ 0 → n < 2 ^ 63 → v ≡ live 1 (vcons (list_val (block_ptr b o)) vnil)
      → Seq K 𝓛 (‵ (empty_at (block_ptr b o) m) ∷ Γ) G) → (v ≡ live 0 vnil → Seq K 𝓛 Γ G) → Seq K 𝓛 (‵ (Taken.own_val x (v ∷ [])) ∷ Γ) G
  taken t n a None v told some none =
      fpick t (λ us. fsplit t $ feq_l t (λ is. fpick t (λ vss. fsplit t $ feq_l t (λ is'. drop t $
      none (ap only is ∙ ap (λ (ws : List Val). live 0 (of_list ws)) is')))))
  taken t n a (Some g) v told some none =
      fpick t (λ us. fsplit t $ feq_l t (λ is. fpick t (λ vss. fsplit t $ feq_l t (λ is'. fsplit t $ move t (1 ∷ []) $ drop t $
      fsplit t $ pure_l t (list_own g.at vss.0) (λ s.
      let fields = (list_told g.at vss.0 s).0 in
      in_a_block t g.at (λ p. empty_at p g.size) (id⊢ 𝓤 (never 𝓤)) (λ b o at.
      some b o g.size told.0 told.1 told.2
      (ap only is ∙ ap (λ (xs : List Val). live 1 (of_list xs)) (is' ∙ ap (λ (xs : List Val). xs ++ []) fields) ∙ (λ i. live 1 (vcons (list_val (at i)) vnil)))))))))
