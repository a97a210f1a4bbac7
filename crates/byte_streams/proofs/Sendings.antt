-- Lemmas on how much of a text went to a sink.
use Rattle.std.proofs.Common.{ℕ, List, [], ◌++◌, Option, refl, sym, ap, ◌∙◌, append_assoc, append-nil, subst, take, drop, take-append-drop}
use Rattle.std.specs.Io.KnownBytes.{Appends}
use Rattle.std.proofs.KnownBytes.{Appends-nil, Appends-trans}
use Rattle.byte_streams.specs.Sending.{AppendsAllBut}

pub AppendsAllBut-refl : (a : Option (List ℕ)) (text : List ℕ) → AppendsAllBut a a text text
AppendsAllBut-refl a text = record { sent = []; parts = refl; appended = Appends-nil a }

-- of what was left after the first, more went
pub AppendsAllBut-trans : (a b c : Option (List ℕ)) (text rest left : List ℕ) → AppendsAllBut a b text rest →
    AppendsAllBut b c rest left → AppendsAllBut a c text left
AppendsAllBut-trans a b c text rest left p q = record {
  sent = p.sent ++ q.sent;
  parts = p.parts ∙ ap (λ l. p.sent ++ l) q.parts ∙ sym (append_assoc p.sent q.sent left);
  appended = Appends-trans a b c p.sent q.sent p.appended q.appended;
}

-- the next bytes went
pub AppendsAllBut-moved : (a b c : Option (List ℕ)) (text rest : List ℕ) (n : ℕ) → AppendsAllBut a b text rest →
    Appends b c (take n rest) → AppendsAllBut a c text (drop n rest)
AppendsAllBut-moved a b c text rest n p q =
    AppendsAllBut-trans a b c text rest (drop n rest) p (record { sent = take n rest; parts = sym (take-append-drop n rest); appended = q })

-- a longer text, of which the new part is left too
pub AppendsAllBut-more : (a b : Option (List ℕ)) (text left more : List ℕ) → AppendsAllBut a b text left →
    AppendsAllBut a b (text ++ more) (left ++ more)
AppendsAllBut-more a b text left more p = record {
  sent = p.sent;
  parts = ap (λ l. l ++ more) p.parts ∙ append_assoc p.sent left more;
  appended = p.appended;
}

-- nothing is left
pub AppendsAllBut-all : (a b : Option (List ℕ)) (text : List ℕ) → AppendsAllBut a b text [] → Appends a b text
AppendsAllBut-all a b text p = subst (Appends a b) (sym (p.parts ∙ append-nil p.sent)) p.appended
