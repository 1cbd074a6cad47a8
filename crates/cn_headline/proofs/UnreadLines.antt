-- The line of a type tells the text of what is known of its number without reads.
use Rattle.std.proofs.Common.{◌≡◌, ◌∙◌, ℕ, List, ◌++◌, codes, Option, Some, None, ap₂, sym, true, subst}
use Rattle.std.specs.Prelude.{Bool, option_map}
use Rattle.std.proofs.lemmas.List.{append_cancel_left, append_cancel_right}
use Rattle.cn_table.specs.TypeTable.{TypeTable}
use Rattle.cn_unread_number.specs.Bounds.{HasUnreadNumber}
use Rattle.cn_unread_number.specs.BoundsText.{bounds_text}
use Rattle.cn_unread_number.specs.declared.bounds.NumberBounds.{NumberBounds}
use Rattle.cn_json.specs.declared.numbers.Classification.{Classification}
use Rattle.cn_app.specs.Commands.Classify.{AreAskedBounds, IsClassificationOf, classification_line, line_of, words_of}

-- a text behind a start and in front of the end of a line
between : (start x y : List ℕ) → start ++ x ++ codes "\n" ≡ start ++ y ++ codes "\n" → x ≡ y
between start x y e = append_cancel_left start x y (append_cancel_right (start ++ x) (start ++ y) (codes "\n") e)

same_text : (name number x y : List ℕ) (recoverable : Option (List ℕ))
    → line_of name number recoverable (Some x) ≡ line_of name number recoverable (Some y) → x ≡ y
same_text name number x y None e = between (name ++ codes ": " ++ number ++ codes ", without read ") x y e
same_text name number x y (Some r) e =
    between (name ++ codes ": " ++ number ++ codes ", recoverable " ++ r ++ codes ", without read ") x y e

module _ (t : TypeTable) (limit : Option ℕ) (is_asked : Bool) (c : Classification)
    (is : IsClassificationOf t limit is_asked true c) (found : NumberBounds)
    (asked : c.without_read ≡ Some found) where
  pub known : HasUnreadNumber t found
  known = subst (AreAskedBounds t true) asked is.without_read

  pub same_bounds_text : (bounds : NumberBounds)
      → classification_line c ≡ line_of t.name (words_of c.number) (option_map words_of c.recoverable)
      (Some (bounds_text bounds)) → bounds_text found ≡ bounds_text bounds
  same_bounds_text bounds e =
      same_text t.name (words_of c.number) (bounds_text found) (bounds_text bounds) (option_map words_of c.recoverable)
      (sym (ap₂ (λ (name : List ℕ) (b : Option NumberBounds).
      line_of name (words_of c.number) (option_map words_of c.recoverable) (option_map bounds_text b)) is.name asked)
      ∙ e)
