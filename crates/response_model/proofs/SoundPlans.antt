-- The plans of the examples are sound.
use Rattle.std.proofs.Common.{refl}
use Rattle.response_model.specs.Bound.{IsSound}
use Rattle.response_model.specs.Examples.{holds_string, friends_of_friends, search, text, tags_and_kind, find}

text_sound : IsSound holds_string text
text_sound = (refl, refl)

pub friends_sound : IsSound holds_string friends_of_friends
friends_sound = (tt, (refl, (tt, (tt, (refl, (tt, (tt, (refl, (tt, text_sound, (tt, (tt, (refl, (tt, text_sound, tt), tt)), tt)), tt)), tt), tt)), tt), tt))

pub search_sound : IsSound holds_string search
search_sound =
    (tt, (refl, (tt, (tt, (refl, (tt, (tt, (refl, (tt, text_sound, tt), tt)), tt), (refl, (tt, (tt, (refl, (tt, text_sound, tt), tt)), tt), tt))), tt), tt))

pub tags_sound : IsSound holds_string tags_and_kind
tags_sound = (tt, (refl, (refl, text_sound, (tt, (refl, refl), tt)), tt))

pub find_sound : IsSound holds_string find
find_sound = (tt, (refl, (tt, text_sound, tt), tt))
