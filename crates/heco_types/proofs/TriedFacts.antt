-- At each name but the function's own there is a site.
use Rattle.std.proofs.Common.{◌≡◌, ◌∙◌, sym, ap, ℕ, ◌⊎◌, inl, inr, List, [], ◌∷◌, ◌++◌, Option, Some, None, arith}
use Rattle.std.specs.List.{Contains}
use Rattle.std.proofs.lemmas.List.Elements.{Contains-append_left, Contains-append_right, Contains-append_cases, Contains-push, Contains-push_cases}
use Rattle.heco_lex.specs.declared.place.Place.{Place}
use Rattle.heco_syntax.specs.Kept.{Kept}
use Rattle.heco_syntax.specs.declared.tree.Source.{Source}
use Rattle.heco_types.specs.Sites.{Site, all}
use Rattle.heco_types.specs.Tried.{IsTried, AllTried, EachNameIsTried}
use Rattle.heco_types.proofs.Walks.{Follows, source-follows}

abbrev Both : List Site → List Site → List Kept → Type 0
Both ss ts ks = AllTried ss ks

only_one : (k l : Kept) → Contains (l ∷ []) k → l ≡ k
only_one k l c = elim (Contains-push_cases [] l k c) [ inl b ↦ absurd (omega (arith, b.1)) | inr e ↦ e ]

same_text : (t u : List ℕ) → Some t ≡ Some u → t ≡ u
same_text t u e = cc

tried-test : (s : Site) (name : Option (List ℕ)) → (name ≡ Some s.text) ⊎ (name ≡ None) → AllTried (s ∷ []) (record { name = name; at = s.at } ∷ [])
tried-test s name kind k text c is =
    let e = only_one k (record { name = name; at = s.at }) c in
    let named : name ≡ Some text = ap (λ l. l.name) e ∙ is in
    elim kind [
      | inl n ↦ record { site = s; among = Contains-push [] s; stands = ap (λ l. l.at) e; says = same_text s.text text (sym n ∙ named) }
      | inr n ↦ absurd (let wrong : None ≡ Some text = sym n ∙ named in cc)
    ]

tried-left : (ss ts : List Site) (at : Place) (text : List ℕ) → IsTried ss at text → IsTried (ss ++ ts) at text
tried-left ss ts at text t = record { site = t.site; among = Contains-append_left ss ts t.site t.among; stands = t.stands; says = t.says }

tried-right : (ss ts : List Site) (at : Place) (text : List ℕ) → IsTried ts at text → IsTried (ss ++ ts) at text
tried-right ss ts at text t = record { site = t.site; among = Contains-append_right ss ts t.site t.among; stands = t.stands; says = t.says }

tried-follow : Follows all all Both
tried-follow = record {
  nothing = λ k text c is. absurd (omega (arith, c.1));
  test = tried-test;
  next = λ x y u v ks ls a b k text c is. elim (Contains-append_cases ks ls k c) [ inl d ↦ tried-left x y k.at text (a k text d is) | inr d ↦ tried-right x y k.at text (b k text d is) ];
  skip = λ at x u ks a k text c is. elim (Contains-append_cases (record { name = None; at = at } ∷ []) ks k c) [
    | inl d ↦ absurd (let e = only_one k (record { name = None; at = at }) d in let wrong : None ≡ Some text = ap (λ l. l.name) e ∙ is in cc)
    | inr d ↦ a k text d is
  ];
}

pub each-name-tried : (x : Source) → EachNameIsTried x
each-name-tried x = source-follows all all Both tried-follow x [] (λ y v ks h. h)
