-- The parts of tokens between commas are the tokens of the text's parts between commas.
use Rattle.std.proofs.Common.{◌≡◌, ℕ, Bool, true, false, cond, List, [], ◌∷◌, map, refl, ap, sym, ◌∙◌, subst}
use Rattle.std.specs.List.{slice_split, onto_first}
use Rattle.std.proofs.lemmas.List.Splits.{slice_split-cons_yes, slice_split-cons_no}
use Rattle.text_lines.proofs.FirstLine.{split-is_cons}
use Rattle.mcs48_asm.specs.Characters.{is_word_character, is_blank, is_comma}
use Rattle.mcs48_asm.specs.Tokens.{first_of, goes_on, before_tokens, tokens_of, is_comma_token, parts_of}
use Rattle.mcs48_asm.proofs.Tokenized.{word-blank, word-comma, comma-word, before-blank, before-apart, before-comma, before-joined}

-- the tokens of a text that goes on with a letter: the first is no comma
record Goes (tokens : List (List ℕ)) : Type 0 where
  pub word : List ℕ
  pub rest : List (List ℕ)
  pub is : tokens ≡ word ∷ rest
  pub comma : is_comma_token word ≡ false

goes-onto : (c : ℕ) (tokens : List (List ℕ)) → is_comma c ≡ false → Goes (onto_first c tokens)
goes-onto c [] comma = record { word = c ∷ []; rest = []; is = refl; comma = comma }
goes-onto c (t ∷ ts) comma = record { word = c ∷ t; rest = ts; is = refl; comma = comma }

goes-token : (text : List ℕ) → goes_on text ≡ true → Goes (tokens_of text)
goes-token [] h = absurd (cc)
goes-token (c ∷ cs) h = go (goes_on cs)
  where
    go : (g : Bool) → Goes (before_tokens c g (tokens_of cs))
    go false = record { word = c ∷ []; rest = tokens_of cs; is = before-apart c (tokens_of cs) (word-blank c h); comma = word-comma c h }
    go true = subst Goes (sym (before-joined c (tokens_of cs) (word-blank c h) (word-comma c h)))
        (goes-onto c (tokens_of cs) (word-comma c h))

-- the first part goes on as the text does
goes-part : (text : List ℕ) → goes_on text ≡ goes_on (first_of (slice_split is_comma text))
goes-part [] = refl
goes-part (c ∷ cs) = go (is_comma c) refl (slice_split is_comma cs)
  where
    go : (t : Bool) → is_comma c ≡ t → (parts : List (List ℕ))
        → is_word_character c ≡ goes_on (first_of (cond t ([] ∷ parts) (onto_first c parts)))
    go true is parts = comma-word c is
    go false is [] = refl
    go false is (q ∷ qs) = refl

-- a character before the first word
onto-parts : (c : ℕ) (w : List ℕ) (ws p : List (List ℕ)) (ps : List (List (List ℕ))) → is_comma c ≡ false
    → is_comma_token w ≡ false → parts_of (w ∷ ws) ≡ p ∷ ps
    → parts_of ((c ∷ w) ∷ ws) ≡ onto_first c p ∷ ps
onto-parts c w ws p ps comma none are =
    let whole : onto_first w (parts_of ws) ≡ p ∷ ps = sym (slice_split-cons_no is_comma_token w ws none) ∙ are in
    slice_split-cons_no is_comma_token (c ∷ w) ws comma ∙ go (parts_of ws) p ps whole
  where
    go : (parts : List (List (List ℕ))) (p : List (List ℕ)) (ps : List (List (List ℕ))) → onto_first w parts ≡ p ∷ ps
        → onto_first (c ∷ w) parts ≡ onto_first c p ∷ ps
    go [] [] ps h = absurd (cc)
    go [] (v ∷ vs) ps h = cc
    go (q ∷ qs) [] ps h = absurd (cc)
    go (q ∷ qs) (v ∷ vs) ps h = cc

-- the tokens between commas are the tokens of the text's parts between commas
pub parts-tokens : (text : List ℕ) → parts_of (tokens_of text) ≡ map tokens_of (slice_split is_comma text)
parts-tokens [] = refl
parts-tokens (c ∷ cs) =
    let cut = split-is_cons is_comma cs in
    go cut.first cut.rest (is_comma c) (is_blank c)
    (goes_on cs) refl refl refl cut.is (parts-tokens cs ∙ ap (map tokens_of) cut.is)
    (goes-part cs ∙ ap (λ ps. goes_on (first_of ps)) cut.is)
  where
    go : (p : List ℕ) (ps : List (List ℕ)) (k b g : Bool) → is_comma c ≡ k → is_blank c ≡ b → goes_on cs ≡ g
        → slice_split is_comma cs ≡ p ∷ ps → parts_of (tokens_of cs) ≡ tokens_of p ∷ map tokens_of ps
        → goes_on cs ≡ goes_on p → parts_of (before_tokens c (goes_on cs) (tokens_of cs)) ≡ map tokens_of (slice_split is_comma (c ∷ cs))
    go p ps true b g comma blank goes cut are first =
        ap parts_of (before-comma c (goes_on cs) (tokens_of cs) comma)
        ∙ slice_split-cons_yes is_comma_token (c ∷ []) (tokens_of cs) comma
        ∙ ap (λ parts. [] ∷ parts) are
        ∙ sym (ap (map tokens_of) (slice_split-cons_yes is_comma c cs comma ∙ ap (λ parts. [] ∷ parts) cut))
    go p ps false true g comma blank goes cut are first =
        ap parts_of (before-blank c (goes_on cs) (tokens_of cs) blank)
        ∙ are
        ∙ ap (λ t. t ∷ map tokens_of ps) (sym (before-blank c (goes_on p) (tokens_of p) blank))
        ∙ sym (ap (map tokens_of) (slice_split-cons_no is_comma c cs comma ∙ ap (onto_first c) cut))
    go p ps false false false comma blank goes cut are first =
        ap (λ g. parts_of (before_tokens c g (tokens_of cs))) goes
        ∙ ap parts_of (before-apart c (tokens_of cs) blank)
        ∙ slice_split-cons_no is_comma_token (c ∷ []) (tokens_of cs) comma
        ∙ ap (onto_first (c ∷ [])) are
        ∙ ap (λ t. t ∷ map tokens_of ps)
        (sym (ap (λ g. before_tokens c g (tokens_of p)) (sym first ∙ goes) ∙ before-apart c (tokens_of p) blank))
        ∙ sym (ap (map tokens_of) (slice_split-cons_no is_comma c cs comma ∙ ap (onto_first c) cut))
    go p ps false false true comma blank goes cut are first =
        let front = goes-token cs goes in
        ap (λ g. parts_of (before_tokens c g (tokens_of cs))) goes
        ∙ ap parts_of (before-joined c (tokens_of cs) blank comma)
        ∙ ap (λ ts. parts_of (onto_first c ts)) front.is
        ∙ onto-parts c front.word front.rest (tokens_of p) (map tokens_of ps) comma front.comma (sym (ap parts_of front.is) ∙ are)
        ∙ ap (λ t. t ∷ map tokens_of ps)
        (sym (ap (λ g. before_tokens c g (tokens_of p)) (sym first ∙ goes) ∙ before-joined c (tokens_of p) blank comma))
        ∙ sym (ap (map tokens_of) (slice_split-cons_no is_comma c cs comma ∙ ap (onto_first c) cut))
