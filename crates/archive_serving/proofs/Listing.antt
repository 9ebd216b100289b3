-- The hosts of a list, part by part.
use Rattle.std.proofs.Common.{cond, suc, ◌≡◌, ◌≢◌, ℕ, ◌+◌, ◌-◌, ◌<◌, ◌≤◌, ◌==◌, true, false, List, [], ◌∷◌, ◌++◌, length, get_or, set, replicate, refl, sym, ap, subst, ◌∙◌, arith}
use Rattle.std.proofs.lemmas.List.{append_assoc, set_at}
use Rattle.std.proofs.lemmas.Bool.Decides.{nat_tests}
use Rattle.std.proofs.lemmas.Grind.{common_steps}
use Rattle.std.specs.List.{AllZip, onto_first, slice_split}
use Rattle.archive_server.specs.declared.putters.TheConstants.{PUTTERS}
use Rattle.archive_arguments.specs.Address.{IsAddress, IsNoAddress}
use Rattle.archive_serving.specs.Hosts.{IsNoList, ListsHosts, parts_of}

-- ---- a text, cut at a byte

-- no byte of the list is c
abbrev pub Lacks : ℕ → List ℕ → Type 0
Lacks c xs = (i : ℕ) → i < length xs → get_or xs i 0 ≢ c

head_differs : (c x : ℕ) (xs : List ℕ) → Lacks c (x ∷ xs) → (x == c) ≡ false
head_differs c x xs h = let ne : x ≢ c = h 0 (grind (arith, common_steps)) in grind (arith, nat_tests)

lacks_tail : (c x : ℕ) (xs : List ℕ) → Lacks c (x ∷ xs) → Lacks c xs
lacks_tail c x xs h i lt = let k = h (i + 1) (grind (arith, common_steps)) in grind (arith, common_steps)

same_test : (c : ℕ) → (c == c) ≡ true
same_test c = grind (arith, nat_tests)

pub split_lacks : (c : ℕ) (xs : List ℕ) → Lacks c xs → slice_split (λ x. x == c) xs ≡ xs ∷ []
split_lacks c [] h = refl
split_lacks c (x ∷ xs) h = rw (head_differs c x xs h, split_lacks c xs (lacks_tail c x xs h))

pub split_at : (c : ℕ) (xs ys : List ℕ) → Lacks c xs → slice_split (λ x. x == c) (xs ++ c ∷ ys) ≡ xs ∷ slice_split (λ x. x == c) ys
split_at c [] ys h = rw (same_test c)
split_at c (x ∷ xs) ys h = rw (head_differs c x xs h, split_at c xs ys (lacks_tail c x xs h))

onto_some : (x : ℕ) (parts : List (List ℕ)) → 0 < length (onto_first x parts)
onto_some x [] = omega arith
onto_some x (part ∷ parts) = omega arith

-- there is at least one part
split_some : (p : ℕ → _) (xs : List ℕ) → 0 < length (slice_split p xs)
split_some p [] = omega arith
split_some p (x ∷ xs) = elim (p x) as (λ b. 0 < length (cond b ([] ∷ slice_split p xs) (onto_first x (slice_split p xs)))) [ true ↦ omega arith | false ↦ onto_some x (slice_split p xs) ]

-- ---- parts and hosts, one by one

zip_more : (xs : List (List ℕ)) (ys : List ℕ) (x : List ℕ) (y : ℕ) → AllZip IsAddress xs ys → IsAddress x y → AllZip IsAddress (xs ++ x ∷ []) (ys ++ y ∷ [])
zip_more [] [] x y all one = (one, tt)
zip_more [] (b ∷ ys) x y all one = absurd all
zip_more (a ∷ xs) [] x y all one = absurd all
zip_more (a ∷ xs) (b ∷ ys) x y all one = (all.0, zip_more xs ys x y all.1 one)

zip_length : (xs : List (List ℕ)) (ys : List ℕ) → AllZip IsAddress xs ys → length xs ≡ length ys
zip_length [] [] all = refl
zip_length [] (b ∷ ys) all = absurd all
zip_length (a ∷ xs) [] all = absurd all
zip_length (a ∷ xs) (b ∷ ys) all = omega (arith, zip_length xs ys all.1)

-- a part that is no address
zip_never : (xs : List (List ℕ)) (x : List ℕ) (more : List (List ℕ)) (ys : List ℕ) → IsNoAddress x → AllZip IsAddress (xs ++ x ∷ more) ys → ⊥
zip_never [] x more [] never all = all
zip_never [] x more (b ∷ ys) never all = never b all.0
zip_never (a ∷ xs) x more [] never all = all
zip_never (a ∷ xs) x more (b ∷ ys) never all = zip_never xs x more ys never all.1

-- ---- in the middle of a list

-- so many parts were read; `rest` has the others
pub record Reads (text rest places : List ℕ) (count : ℕ) : Type 0 where
  pub parts : List (List ℕ)
  pub hosts : List ℕ
  pub spelled : AllZip IsAddress parts hosts
  pub count_is : length hosts ≡ count
  pub few : count ≤ PUTTERS
  pub cut : parts_of text ≡ parts ++ parts_of rest
  pub places_are : places ≡ hosts ++ replicate (PUTTERS - count) 0

pub reads_none : (text : List ℕ) → Reads text text (replicate PUTTERS 0) 0
reads_none text = record { parts = []; hosts = []; spelled = tt; count_is = refl; few = omega arith; cut = refl; places_are = refl }

-- a further host in its place
placed : (hosts places : List ℕ) (count host : ℕ) → length hosts ≡ count → count < PUTTERS → places ≡ hosts ++ replicate (PUTTERS - count) 0 →
    set places count host ≡ (hosts ++ host ∷ []) ++ replicate (PUTTERS - (count + 1)) 0
placed hosts places count host is small are =
    let left : PUTTERS - count ≡ suc (PUTTERS - (count + 1)) = omega (arith, small) in
    let filled : places ≡ hosts ++ 0 ∷ replicate (PUTTERS - (count + 1)) 0 = are ∙ ap (λ n. hosts ++ replicate n 0) left in
    ap (λ ps. set ps count host) filled ∙ set_at hosts 0 (replicate (PUTTERS - (count + 1)) 0) host count is
    ∙ sym (append_assoc hosts (host ∷ []) (replicate (PUTTERS - (count + 1)) 0))

-- the next part is an address, and there are others
pub reads_more : (text rest first others places : List ℕ) (count host : ℕ) → Reads text rest places count → count < PUTTERS →
    parts_of rest ≡ first ∷ parts_of others → IsAddress first host → Reads text others (set places count host) (count + 1)
reads_more text rest first others places count host reads small cut_is is =
    record {
      parts = reads.parts ++ first ∷ [];
      hosts = reads.hosts ++ host ∷ [];
      spelled = zip_more reads.parts reads.hosts first host reads.spelled is;
      count_is = grind (arith, common_steps, reads.count_is);
      few = omega (arith, small);
      cut = reads.cut ∙ ap (λ ps. reads.parts ++ ps) cut_is ∙ sym (append_assoc reads.parts (first ∷ []) (parts_of others));
      places_are = placed reads.hosts places count host reads.count_is small reads.places_are;
    }

-- it is the last one
pub reads_last : (text rest first places : List ℕ) (count host : ℕ) → Reads text rest places count → count < PUTTERS →
    parts_of rest ≡ first ∷ [] → IsAddress first host → ListsHosts text (set places count host)
reads_last text rest first places count host reads small cut_is is =
    let hosts = reads.hosts ++ host ∷ [] in
    let long : length hosts ≡ count + 1 = grind (arith, common_steps, reads.count_is) in
    record {
      hosts = hosts;
      few = omega (arith, small, long);
      spelled =
          subst (λ ps. AllZip IsAddress ps hosts) (sym (reads.cut ∙ ap (λ ps. reads.parts ++ ps) cut_is))
          (zip_more reads.parts reads.hosts first host reads.spelled is);
      places_are =
          placed reads.hosts places count host reads.count_is small reads.places_are
          ∙ ap (λ n. hosts ++ replicate (PUTTERS - n) 0) (sym long);
    }

-- it is no address
pub reads_bad : (text rest first : List ℕ) (more : List (List ℕ)) (places : List ℕ) (count : ℕ) → Reads text rest places count →
    parts_of rest ≡ first ∷ more → IsNoAddress first → IsNoList text
reads_bad text rest first more places count reads cut_is never others lists =
    zip_never reads.parts first more lists.hosts never
    (subst (λ ps. AllZip IsAddress ps lists.hosts) (reads.cut ∙ ap (λ ps. reads.parts ++ ps) cut_is) lists.spelled)

-- all places are taken, and there is a further part
pub reads_full : (text rest places : List ℕ) (count : ℕ) → Reads text rest places count → PUTTERS ≤ count → IsNoList text
reads_full text rest places count reads full others lists =
    let all = zip_length (parts_of text) lists.hosts lists.spelled in
    let done = zip_length reads.parts reads.hosts reads.spelled in
    let one = split_some (λ b. b == 44) rest in
    let long : length (parts_of text) ≡ length reads.parts + length (parts_of rest) = ap length reads.cut ∙ grind (arith, common_steps) in
    omega (arith, all, done, one, long, reads.count_is, full, lists.few)
