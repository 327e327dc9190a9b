-- The sheet: the text of an answer for a list of V nets.
-- Assumes nothing.
use Rattle.std.specs.Prelude.{cond, List, [], ◌∷◌, ◌++◌, ℕ, suc, eqb}
use Rattle.clauses.specs.Bytes.{lf, comma, minus}
use Rattle.clauses.specs.Code.{net}
use Rattle.clauses.specs.Number.{decimal, field}
use Rattle.clauses.specs.Sign.{is_inverse}
use Rattle.rules.specs.declared.Verdict.{Verdict}
use Rattle.rules.specs.declared.Verdict.TheVariants.{Contradiction, Settled, Unfinished}
use Rattle.closure.specs.declared.close.Summary.{Summary}
use Rattle.rules.specs.Answer.{Answer}

-- 'a line of names': verdict,rounds,variables,ands,xors,ites,groups
unfoldable pub names_line : List ℕ
names_line =
    118 ∷ 101 ∷ 114 ∷ 100 ∷ 105 ∷ 99 ∷ 116 ∷ 44 ∷ 114 ∷ 111 ∷ 117 ∷ 110 ∷ 100 ∷ 115 ∷ 44 ∷ 118 ∷ 97 ∷ 114 ∷ 105 ∷ 97 ∷ 98 ∷ 108 ∷ 101 ∷ 115 ∷ 44 ∷ 97 ∷ 110 ∷ 100 ∷ 115 ∷ 44 ∷ 120 ∷ 111 ∷ 114 ∷ 115 ∷ 44 ∷ 105 ∷ 116 ∷ 101 ∷ 115 ∷ 44 ∷ 103 ∷ 114 ∷ 111 ∷ 117 ∷ 112 ∷ 115 ∷ 10 ∷ []

-- contradiction, settled, unfinished
unfoldable pub verdict_text : Verdict → List ℕ
verdict_text Contradiction = 99 ∷ 111 ∷ 110 ∷ 116 ∷ 114 ∷ 97 ∷ 100 ∷ 105 ∷ 99 ∷ 116 ∷ 105 ∷ 111 ∷ 110 ∷ []
verdict_text Settled = 115 ∷ 101 ∷ 116 ∷ 116 ∷ 108 ∷ 101 ∷ 100 ∷ []
verdict_text Unfinished = 117 ∷ 110 ∷ 102 ∷ 105 ∷ 110 ∷ 105 ∷ 115 ∷ 104 ∷ 101 ∷ 100 ∷ []

-- 'rounds used, V, the three gate counts, groups'
unfoldable pub numbers_text : ℕ → Answer → List ℕ
numbers_text v a =
    field a.rounds comma ++ (field v comma ++ (field a.ands comma ++ (field a.xors comma ++ (field a.ites comma ++ field a.groups lf))))

-- 'a line of values .. in order: verdict, rounds used, V, the three gate counts, groups'
unfoldable pub values_line : ℕ → Answer → List ℕ
values_line v a = verdict_text a.verdict ++ (comma ∷ numbers_text v a)

-- 'its number and lead (`T`, `F`, or a number with a minus for the inverse)'
unfoldable pub lead_text : ℕ → List ℕ
lead_text code =
    cond (eqb code 0) (70 ∷ []) (cond (eqb code 1) (84 ∷ []) (cond (is_inverse code) (minus ∷ decimal (net code)) (decimal (net code))))

-- 'one line per net with its number and lead'
unfoldable pub net_line : ℕ → ℕ → List ℕ
net_line w code = field w comma ++ (lead_text code ++ (lf ∷ []))

-- from net w on
unfoldable pub net_lines : ℕ → List ℕ → List ℕ
net_lines w [] = []
net_lines w (code ∷ codes) = net_line w code ++ net_lines (suc w) codes

-- the line `net,lead`
unfoldable pub net_lead_line : List ℕ
net_lead_line = 110 ∷ 101 ∷ 116 ∷ 44 ∷ 108 ∷ 101 ∷ 97 ∷ 100 ∷ 10 ∷ []

-- 'unless there is a contradiction, the line `net,lead` and one line per net'
unfoldable pub lead_lines : Verdict → List ℕ → List ℕ
lead_lines Contradiction leads = []
lead_lines Settled leads = net_lead_line ++ net_lines 1 leads
lead_lines Unfinished leads = net_lead_line ++ net_lines 1 leads

unfoldable pub sheet_text : ℕ → Answer → List ℕ
sheet_text v a = names_line ++ (values_line v a ++ lead_lines a.verdict a.leads)

-- an answer from its two parts, as closing hands it over
abbrev pub answer_of : Summary → List ℕ → Answer
answer_of s leads =
    record { verdict = s.verdict; rounds = s.rounds; ands = s.ands; xors = s.xors; ites = s.ites; groups = s.groups; leads = leads }
