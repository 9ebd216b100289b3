-- What the files of the samples do to the collections.
use Rattle.std.proofs.Common.{◌≡◌, ℕ, zero, suc, ◌<◌, ◌^◌, List, [], ◌∷◌, ◌++◌, Contains, refl, ap, sym, ◌∙◌, subst, arith}
use Rattle.byte_output.specs.Bytes.{IsBytes}
use Rattle.tws_file.specs.declared.key.Key.{Key}
use Rattle.tws_file.specs.declared.«ruleset».Ruleset.{Ruleset}
use Rattle.tws_file.specs.declared.«ruleset».Ruleset.TheVariants.{Lynx}
use Rattle.tws_file.specs.Fields.{set_key}
use Rattle.tws_file.specs.Text.{Solution, IsSolution, File}
use Rattle.tws_file.proofs.FileText.{one_file}
use Rattle.tws_best.specs.Best.{KeyedBody, Collected, IsCollected, collection_text, solutions_of, IsBestOf}
use Rattle.tws_best.specs.Choice.{best_of}
use Rattle.tws_best.proofs.Choices.{best_of_is}
use Rattle.tws_best.proofs.Texts.{file_from, is_text, file_solves, file_rules}
use Rattle.archive_table.specs.Table.{Maps, IsFileMerge, MergesIntoOwn, IsMerged, empty_maps}
use Rattle.archive_theorem.specs.Samples.{sample_file, sample_entry, sample_maps}

-- ---- the text of a Lynx collection

-- the best of the old entries and of these
abbrev pub with_entries : List KeyedBody → Maps → Maps
with_entries entries old =
    record { lynx = record { «ruleset» = Lynx; entries = best_of (old.lynx.entries ++ entries) }; ms = old.ms }

-- the text of a collection of Lynx solutions, as a file
module _ (c : Collected) (fits : IsCollected c) (rules : c.ruleset ≡ Lynx) (old : Maps) (was : old.lynx.ruleset ≡ Lynx) where
  abbrev file : File
  file = file_from c fits

  -- its solutions are the collection's entries
  solves : solutions_of old.lynx.ruleset (file ∷ []) ≡ c.entries
  solves = ap (λ (k : Ruleset). solutions_of k (file ∷ [])) (was ∙ sym rules) ∙ file_solves c fits

  -- merging it gives the best of the old entries and of these
  joined : IsFileMerge file old.lynx (with_entries c.entries old).lynx
  joined =
      let entries = best_of (old.lynx.entries ++ c.entries) in
      record {
        rules = sym was;
        best = subst (λ (es : List KeyedBody). IsBestOf (Contains (old.lynx.entries ++ es)) entries) (sym solves) (best_of_is (old.lynx.entries ++ c.entries));
      }

  -- it changes only the collection of its ruleset
  own_merged : MergesIntoOwn file.ruleset file old (with_entries c.entries old)
  own_merged =
      subst (λ (k : Ruleset). MergesIntoOwn k file old (with_entries c.entries old)) (sym (file_rules c fits ∙ rules)) (joined, refl)

  -- the same for its text
  text_merged : IsMerged (collection_text c) old (with_entries c.entries old)
  text_merged =
      record {
        readable = λ f is. subst (λ (g : File). MergesIntoOwn g.ruleset g old (with_entries c.entries old))
            (one_file (collection_text c) file f (is_text c fits) is) own_merged;
        unreadable = λ never. absurd (never file (is_text c fits));
      }

-- ---- a file of one solution

-- the solution of the samples, with this many ticks
abbrev sample_solution : (ticks : ℕ) → Solution
sample_solution ticks =
    record { key = (sample_entry ticks).key; flags = 0; start = 0; seed = 0; ticks = ticks; moves = [] }

password_bytes : IsBytes (0x42 ∷ 0x44 ∷ 0x48 ∷ 0x50 ∷ [])
password_bytes zero = omega arith
password_bytes (suc zero) = omega arith
password_bytes (suc (suc zero)) = omega arith
password_bytes (suc (suc (suc zero))) = omega arith
password_bytes (suc (suc (suc (suc i)))) = omega arith

-- its key is not that of the set
not_set : (sample_entry 0).key ≡ set_key → ⊥
not_set e =
    let numbers : (sample_entry 0).key.number ≡ set_key.number = ap (λ (k : Key). k.number) e in
    absurd cc

none_below : {P : Type 0} (i : ℕ) → i < 0 → P
none_below i below = absurd (omega arith)

-- it is a solution
sample_fits : (ticks : ℕ) → ticks < 2 ^ 32 → IsSolution (sample_solution ticks)
sample_fits ticks small =
    record {
      fields = record {
        key = record { fits = record { number = omega arith; password = password_bytes; password_length = refl }; named = not_set };
        flags = omega arith;
        start = omega arith;
        seed = omega arith;
        ticks = small;
        bytes = λ i. omega arith;
        size = omega arith;
      };
      whole = (
        [],
        record {
          pieces = [];
          fits = tt;
          joined = refl;
          made =
              record { count = refl; act = λ i m w below. none_below i below; at = λ i m below. none_below i below };
        },
      );
    }

sample_collected_90 : IsCollected (sample_maps 90).lynx
sample_collected_90 =
    record { rising = (tt, tt); solved = (record { solved = sample_solution 90; fits = sample_fits 90 (omega arith); is = refl }, tt) }

pub sample_collected_100 : IsCollected (sample_maps 100).lynx
sample_collected_100 =
    record { rising = (tt, tt); solved = (record { solved = sample_solution 100; fits = sample_fits 100 (omega arith); is = refl }, tt) }

-- the file with 100 ticks is merged into empty collections
pub hundred-first : IsMerged (sample_file 100) empty_maps (sample_maps 100)
hundred-first = text_merged (sample_maps 100).lynx sample_collected_100 refl empty_maps refl

-- the file with 90 ticks is merged into empty collections
pub ninety-first : IsMerged (sample_file 90) empty_maps (sample_maps 90)
ninety-first = text_merged (sample_maps 90).lynx sample_collected_90 refl empty_maps refl

-- the one with 90 ticks replaces the one with 100
pub ninety-better : IsMerged (sample_file 90) (sample_maps 100) (sample_maps 90)
ninety-better = text_merged (sample_maps 90).lynx sample_collected_90 refl (sample_maps 100) refl

-- the one with 100 ticks changes nothing where there is one with 90
pub hundred-worse : IsMerged (sample_file 100) (sample_maps 90) (sample_maps 90)
hundred-worse = text_merged (sample_maps 100).lynx sample_collected_100 refl (sample_maps 90) refl
