-- What an offer letter and an advert do at their channel's site.
pub mod Offers
