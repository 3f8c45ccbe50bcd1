-- What is left of a dump after a token, and after the end.
use Rattle.std.proofs.Common.{◌≡◌, ◌<◌, ℕ, Bool, true, false, List, length, [], ◌∷◌, None, Some, Ok, refl, subst, arith}
use Rattle.std.specs.Prelude.{if◌then◌else◌}
use Rattle.std.specs.declared.option.Option.{Option}
use Rattle.capture_vcd.specs.declared.part.Part.{Part}
use Rattle.capture_vcd.specs.declared.part.Part.TheVariants as part
use Rattle.capture_vcd.specs.declared.state.State.{State}
use Rattle.capture_vcd.specs.declared.state.Step.{Step}
use Rattle.capture_vcd.specs.declared.token.Tokens.{Tokens}
use Rattle.capture_vcd.specs.Changes.{after_end}
use Rattle.capture_vcd.specs.Levels.{with_sample, without}
use Rattle.capture_vcd.specs.Reads.{is_over, left_to_do, nothing, reads_from, taken_token}
use Rattle.capture_vcd.specs.Tokens.{Token, left}

-- the one part after which nothing comes
pub over_is : (p : Part) → is_over p ≡ true → p ≡ part.Over
over_is part.Over h = refl
over_is part.Outside h = absurd (cc)
over_is part.Section h = absurd (cc)
over_is part.Timescale h = absurd (cc)
over_is (part.Measure count) h = absurd (cc)
over_is part.Kind h = absurd (cc)
over_is part.Width h = absurd (cc)
over_is (part.Code is_one) h = absurd (cc)
over_is (part.Name is_one code) h = absurd (cc)
over_is part.Definitions h = absurd (cc)
over_is part.Body h = absurd (cc)
over_is part.Comment h = absurd (cc)
over_is (part.Vector l) h = absurd (cc)

-- a token after the end changes nothing
over_token : (clk dat : List ℕ) (s : State) (text : Option (List ℕ)) → s.part ≡ part.Over → taken_token clk dat s text ≡ Ok (without s)
over_token clk dat s None h = rw h refl
over_token clk dat s (Some text) h = rw h refl

-- so after the end nothing more is read
pub over_silent : (clk dat : List ℕ) (s : State) (ts : List Token) → is_over s.part ≡ true → reads_from clk dat s ts ≡ nothing
over_silent clk dat s [] h = refl
over_silent clk dat s (t ∷ ts) h = rw (over_token clk dat s t.text (over_is s.part h)) (over_silent clk dat s ts h)

-- the end leads there
pub end_is_over : (p : Part) (s : State) (step : Step) → after_end p s ≡ Ok step → is_over p ≡ false → is_over step.state.part ≡ true
end_is_over part.Body s step h left_open =
    let same : with_sample part.Over s.time s ≡ step = cc h in
    subst (λ after. is_over after.state.part ≡ true) same refl
end_is_over part.Over s step h left_open = absurd (cc)
end_is_over part.Outside s step h left_open = absurd (cc)
end_is_over part.Section s step h left_open = absurd (cc)
end_is_over part.Timescale s step h left_open = absurd (cc)
end_is_over (part.Measure count) s step h left_open = absurd (cc)
end_is_over part.Kind s step h left_open = absurd (cc)
end_is_over part.Width s step h left_open = absurd (cc)
end_is_over (part.Code is_one) s step h left_open = absurd (cc)
end_is_over (part.Name is_one code) s step h left_open = absurd (cc)
end_is_over part.Definitions s step h left_open = absurd (cc)
end_is_over part.Comment s step h left_open = absurd (cc)
end_is_over (part.Vector l) s step h left_open = absurd (cc)

less_by : (x y : Bool) (m n : ℕ) → m < n → y ≡ false → (if x then 0 else m) < (if y then 0 else n)
less_by true true m n h left_open = absurd (cc)
less_by true false m n h left_open = omega arith
less_by false true m n h left_open = absurd (cc)
less_by false false m n h left_open = h

-- less is left to do after a field
pub less_left : (p q : Part) (a b : Tokens) (t : Token) → left b ≡ t ∷ left a → is_over q ≡ false → left_to_do p a < left_to_do q b
less_left p q a b t h left_open = less_by (is_over p) (is_over q) (length (left a)) (length (left b)) (rw h (omega arith)) left_open

none_by : (x y : Bool) (m n : ℕ) → 0 < n → x ≡ true → y ≡ false → (if x then 0 else m) < (if y then 0 else n)
none_by true true m n some done left_open = absurd (cc)
none_by true false m n some done left_open = some
none_by false y m n some done left_open = absurd (cc)

-- and nothing after the end
pub none_left : (p q : Part) (a b : Tokens) (t : Token) → left b ≡ t ∷ [] → is_over p ≡ true → is_over q ≡ false → left_to_do p a < left_to_do q b
none_left p q a b t h done left_open = none_by (is_over p) (is_over q) (length (left a)) (length (left b)) (rw h (omega arith)) done left_open
