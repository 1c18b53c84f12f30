mod LastOffset
