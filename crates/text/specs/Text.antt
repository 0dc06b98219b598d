-- The text that the program prints for a rule file. To be read beside the paper's "The program". Its words and the lines of a period and of a refusal
-- are those of `words`.
--
--   list_line name xs    a name, then numbers
--   answer_text a        the four lines of an answer
--   verdict_text v       the text for the verdict v on a table: its answer, or its refusal with the paper's number
--   TableText t x       x is the text for the table t
--   ReadText f x        x is the text for what was read of a file
--   FileText s x        x is the text for the file s
--   ReportOf s r        THE PROMISE of `report`: r holds the text for the file s
--
-- Theorems: text_unique, report_unique (one outcome), report_first (the first bytes of a file decide), report_part (where the text stands).
use Rattle.std.specs.Prelude.{◌≡◌, List, ◌∷◌, ◌++◌, ℕ, ◌+◌, ◌≤◌, ◌<◌, length, take}
use Rattle.std.proofs.Common.{sym, ap, ◌∙◌, subst, arith}
use Rattle.std.proofs.Math.Logic.{by_cases}
use Rattle.std.proofs.Math.Decide.{dec_lt}
use Rattle.model.specs.Ends.{Range}
use Rattle.model.specs.Answer.{Answer}
use Rattle.sevens.specs.Sevens.{Bytes}
use Rattle.table.specs.declared.Table.{Table}
use Rattle.rulefile.specs.declared.FileRead.{FileRead}
use Rattle.rulefile.specs.File.{read_of}
use Rattle.rulefile.specs.Length.{longest}
use Rattle.rulefile.specs.First.{first_bytes}
use Rattle.engine.specs.Verdict.{Verdict, outside, knotted, flat, wide, found, Judges, verdict_unique}
use Rattle.words.specs.declared.Text.{Text}
use Rattle.words.specs.Decimal.{ascii, pick, numbers}
use Rattle.words.specs.Lines.{newline, refused_line_of, exact_line_of, range_line_of}
use Rattle.words.specs.Held.{Holds, held_unique, holds_part}

-- ------------------------------------------------------------------------------------------------------------------------------------ the lines

-- a name, then numbers, each after a space
abbrev pub list_line : List ℕ → List ℕ → List ℕ
list_line name xs = name ++ (numbers xs ++ newline)

-- ------------------------------------------------------------------------------------------------------------------------------------- the text

-- line 1: the period where it is exact, else its two ends
abbrev pub period_line_of : Range → List ℕ
period_line_of a = pick a.exact (exact_line_of a.high_p a.high_q) (range_line_of a.low_p a.low_q a.high_p a.high_q)

-- then the rule numbers of the low and of the high loop, and Q of the high end with X of each transition
abbrev pub answer_text : Answer → List ℕ
answer_text a =
    period_line_of a.ends
    ++ (list_line (ascii "low") a.low_loop
    ++ (list_line (ascii "high") a.high_loop
    ++ list_line (ascii "schedule") (a.ends.high_q ∷ a.schedule)))

-- a refusal is one line
abbrev pub verdict_text : Verdict → List ℕ
verdict_text (outside k) = refused_line_of 3 k
verdict_text (knotted u) = refused_line_of 5 u
verdict_text flat = refused_line_of 6 0
verdict_text wide = refused_line_of 11 0
verdict_text (found a) = answer_text a

-- the text for the table t is that for the verdict on it
pub record TableText (t : Table) (x : List ℕ) : Type 0 where
  pub verdict : Verdict
  pub judged : Judges t verdict
  pub result : x ≡ verdict_text verdict

-- what was read of a file: refused, it has that refusal's text, and else the text for its table
pub record ReadText (f : FileRead) (x : List ℕ) : Type 0 where
  pub refused : 0 < f.refusal → x ≡ refused_line_of f.refusal f.place
  pub accepted : f.refusal ≤ 0 → TableText f.table x

abbrev pub FileText : List ℕ → List ℕ → Type 0
FileText s x = ReadText (read_of s) x

-- ---------------------------------------------------------------------------------------------------------------------------------- the promise

pub record ReportOf (s : List ℕ) (r : Text) : Type 0 where
  pub text : List ℕ
  pub is_text : FileText s text
  pub is_held : Holds r text

-- ------------------------------------------------------------------------------------------------------------------------------------- theorems

-- ONE TEXT FOR A FILE
pub text_unique : (s x y : List ℕ) → FileText s x → FileText s y → x ≡ y
text_unique s x y a b =
    by_cases (dec_lt 0 (read_of s).refusal)
    (λ l. a.refused l ∙ sym (b.refused l))
    (λ l.
    let p = a.accepted (omega arith) in
    let q = b.accepted (omega arith) in
    p.result ∙ ap verdict_text (verdict_unique (read_of s).table p.verdict q.verdict p.judged q.judged) ∙ sym q.result)

-- ONLY ONE OUTCOME
pub report_unique : (s : List ℕ) (r r' : Text) → ReportOf s r → ReportOf s r' → r ≡ r'
report_unique s r r' a b = held_unique _ _ r r' (text_unique s a.text b.text a.is_text b.is_text) a.is_held b.is_held

-- THE FIRST BYTES DECIDE: the report on `longest + 1` bytes of a file, or more, is the report on the whole file
pub report_first : (s : List ℕ) (k : ℕ) → Bytes s → longest + 1 ≤ k → (r : Text) → ReportOf (take k s) r → ReportOf s r
report_first s k b h r a =
    record { text = a.text; is_text = subst (λ (f : FileRead). ReadText f a.text) (first_bytes s k b h) a.is_text; is_held = a.is_held }

-- THE TEXT IS THE FIRST `len` BYTES, and these are there
pub report_part : (s : List ℕ) (r : Text) (a : ReportOf s r) → (r.len ≤ length r.bytes) × (r.len ≡ length (take r.len r.bytes)) × (take r.len r.bytes ≡ a.text)
report_part s r a = holds_part r a.text a.is_held
