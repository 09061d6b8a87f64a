-- All texts have trees, or some are refused.
use Rattle.std.proofs.Common.{◌≡◌, ◌⊎◌, inl, inr, ℕ, List, [], ◌∷◌, ◌++◌, map, refl, sym, ap, ◌∙◌}
use Rattle.std.specs.String.{string_bytes}
use Rattle.m2_tree.specs.declared.refusal.Refusal.{Refusal}
use Rattle.m2_tree.specs.declared.decl.Module.{Module}
use Rattle.build_jobs.specs.declared.file.SourceFile.{SourceFile}
use Rattle.build_jobs.specs.declared.reading.Read.{Read}
use Rattle.build_jobs.specs.declared.reading.Read.TheVariants.{Parsed, Refused}
use Rattle.build_jobs.specs.Reading.{AreRead}
use Rattle.law_graph.proofs.Sorting.{by_key}
use Rattle.law_graph.proofs.Inserting.{sort}
use Rattle.build_results.specs.Order.{is_before, AreInOrder}
use Rattle.build_results.specs.Reported.{Reported, report_of}
use Rattle.build_results.specs.Texts.{refused_in, refused_of, trees_of, AreTrees, AreUnread}
use Rattle.m2c.specs.Readings.{TreesOrRefusals}
use Rattle.m2c.proofs.Readings.{files_are_read}

-- what is refused of a file, and of all of them, with the names that the files have in memory
refusal_in : SourceFile → Read → List Refusal
refusal_in f (Parsed tree) = []
refusal_in f (Refused pos number) = record { file = f.name; pos = pos; number = number } ∷ []

refusals_of : List SourceFile → List Read → List Refusal
refusals_of [] rs = []
refusals_of (f ∷ fs) [] = []
refusals_of (f ∷ fs) (r ∷ rs) = refusal_in f r ++ refusals_of fs rs

reported_more : (f : SourceFile) (r : Read) (more : List Refusal) (all : List Reported) → map report_of more ≡ all
    → map report_of (refusal_in f r ++ more) ≡ refused_in (string_bytes f.name) r ++ all
unfolding refusal_in
reported_more f (Parsed tree) more all e = e
reported_more f (Refused pos number) more all e =
    ap (λ (xs : List Reported). report_of (record { file = f.name; pos = pos; number = number }) ∷ xs) e

reported : (files : List SourceFile) (reads : List Read)
    → map report_of (refusals_of files reads) ≡ refused_of files reads
unfolding refusals_of
reported [] rs = refl
reported (f ∷ fs) [] = refl
reported (f ∷ fs) (r ∷ rs) = reported_more f r (refusals_of fs rs) (refused_of fs rs) (reported fs rs)

-- Refusals have an order in which they are reported.
pub in_order : (found : List Refusal) → (refusals : List Refusal) × AreInOrder found refusals
in_order found = let s = sort is_before (by_key (λ (r : Refusal). string_bytes r.file)) found in
    (s.all, record { same = s.same; sorted = s.sorted; stable = s.stable })

pub trees_or_refusals : TreesOrRefusals
trees_or_refusals files = by (refused_of files reads.0) refl where
  reads : (rs : List Read) × AreRead files rs
  reads = files_are_read files

  by : (rs : List Reported) → refused_of files reads.0 ≡ rs → ((trees : List (List ℕ × Module)) × AreTrees files trees)
      ⊎ ((refusals : List Refusal) × AreUnread files refusals)
  by [] none = inl (trees_of files reads.0, record { reads = reads.0; are_read = reads.1; fine = none; all = refl })
  by (r ∷ rs) some =
      let found = refusals_of files reads.0 in
      let o = in_order found in
      inr (
        o.0,
        record {
          reads = reads.0;
          are_read = reads.1;
          some = λ none. let no : r ∷ rs ≡ [] = sym some ∙ none in absurd cc;
          reported = (found, reported files reads.0, o.1);
        },
      )
