mod PlaceLaws
mod TextLaws
